-- What a lent buffer holds at first, and the checksum of what it holds at last.
use Rattle.std.specs.Prelude.{ℕ, zero, suc, ◌+◌, ◌*◌, ◌%◌, List, [], ◌∷◌, replicate}
use Rattle.le.specs.Le.{number_at}

-- the numbers of which the first are lent as a table: each is the seed
unfoldable pub space : (seed : ℕ) → List ℕ
space seed = replicate 8300 seed

-- n bytes that go up by 37 from v on, modulo 256
unfoldable pub rising : (n v : ℕ) → List ℕ
rising zero v = []
rising (suc n) v = v ∷ rising n ((v + 37) % 256)

-- what an output of n bytes holds at first
abbrev pub filling : (seed n : ℕ) → List ℕ
filling seed n = rising n (seed % 256)

-- n numbers of 4 bytes each, one after the other, from the i-th on
unfoldable pub numbers_read : (s : List ℕ) (i n : ℕ) → List ℕ
numbers_read s i zero = []
numbers_read s i (suc n) = number_at 4 s (i * 4) ∷ numbers_read s (suc i) n

-- the first n numbers of 4 bytes each
abbrev pub numbers_in : (s : List ℕ) (n : ℕ) → List ℕ
numbers_in s n = numbers_read s 0 n

-- a checksum takes one number more
unfoldable pub taking : (sum n : ℕ) → ℕ
taking sum n = (sum % 4294967296 * 16777619 + n % 4294967296) % 4294967296

-- it takes each number in turn
unfoldable pub checksum_from : (sum : ℕ) → List ℕ → ℕ
checksum_from sum [] = sum
checksum_from sum (n ∷ ns) = checksum_from (taking sum n) ns

-- from its first value on
unfoldable pub checksum : List ℕ → ℕ
checksum ns = checksum_from 2166136261 ns
