-- The encoding is unique: bytes are of one forest at most.
use Prim.Native.Nat.{ℕ}
use native.Mathlib.Omega.{arith}
use mathlib.Core.Path.{◌≡◌, refl, ap, sym, ◌∙◌, subst}
use mathlib.Core.Bool.{true, false, true≢false}
use mathlib.Core.List.{List, [], ◌++◌, append_assoc, append-nil}
use lib.ListN.{length, take, drop}
use lib.Seq.{take_at, drop_at, take-append_seam, drop-append_seam}
use Rattle.le.specs.Le.{number_at}
use Rattle.kinds.specs.Kinds.{is_known}
use Rattle.format.specs.Forest.{Forest, end, known, unknown, count, encode, header, file_of}
use Rattle.format.specs.Layout.{Fits, GoodBody, WellFormed}
use Rattle.format.specs.Laws.{EncodingUnique}
use Rattle.format.proofs.Bodies.{body_prefix}
use Rattle.format.proofs.Headers.{header_drop, header_kind, header_size, header_hash, header_properties, header_children, file_header_drop, file_header_roots, file_header_flags}

-- equal bytes, cut at the same length
pub cut : (a b x y : List ℕ) → length a ≡ length b → a ++ x ≡ b ++ y → (a ≡ b) × (x ≡ y)
cut a b x y l e = (
  sym (take_at a x (length b) l) ∙ ap (take (length b)) e ∙ take-append_seam b y,
  sym (drop_at a x (length b) l) ∙ ap (drop (length b)) e ∙ drop-append_seam b y,
)

-- equal headers are of equal numbers
pub record Same (k s h p c k' s' h' p' c' : ℕ) (x y : List ℕ) : Type 0 where
  pub kind : k ≡ k'
  pub size : s ≡ s'
  pub hash : h ≡ h'
  pub properties : p ≡ p'
  pub children : c ≡ c'
  pub rest : x ≡ y

same : (k s h p c k' s' h' p' c' : ℕ) (x y : List ℕ) → Fits k s h p c → Fits k' s' h' p' c' → header k s h p c ++ x ≡ header k' s' h' p' c' ++ y
    → Same k s h p c k' s' h' p' c' x y
same k s h p c k' s' h' p' c' x y f g e = record {
  kind = sym (header_kind k s h p c x f) ∙ ap (λ l. number_at 4 l 0) e ∙ header_kind k' s' h' p' c' y g;
  size = sym (header_size k s h p c x f) ∙ ap (λ l. number_at 4 l 4) e ∙ header_size k' s' h' p' c' y g;
  hash = sym (header_hash k s h p c x f) ∙ ap (λ l. number_at 8 l 8) e ∙ header_hash k' s' h' p' c' y g;
  properties = sym (header_properties k s h p c x f) ∙ ap (λ l. number_at 4 l 16) e ∙ header_properties k' s' h' p' c' y g;
  children = sym (header_children k s h p c x f) ∙ ap (λ l. number_at 4 l 20) e ∙ header_children k' s' h' p' c' y g;
  rest = sym (header_drop k s h p c x) ∙ ap (drop 24) e ∙ header_drop k' s' h' p' c' y;
}

differ : {P : Type 0} (k k' : ℕ) → is_known k ≡ true → is_known k' ≡ false → k ≡ k' → P
differ k k' e f h = absurd (true≢false (sym e ∙ ap is_known h ∙ f))

-- the bytes of nodes with more after them
pub unique : (f g : Forest) (x y : List ℕ) → WellFormed f → WellFormed g → count f ≡ count g → encode f ++ x ≡ encode g ++ y → f ≡ g
unique end end x y w v n e = refl
unique end (known k h p b kids next) x y w v n e = absurd (omega (arith, n))
unique end (unknown k h p c r next) x y w v n e = absurd (omega (arith, n))
unique (known k h p b kids next) end x y w v n e = absurd (omega (arith, n))
unique (unknown k h p c r next) end x y w v n e = absurd (omega (arith, n))
unique (known k h p b kids next) (unknown k' h' p' c r next') x y w v n e =
    differ k k' w.0 v.0 (same _ _ _ _ _ _ _ _ _ _ _ _ w.1 v.1 (simp append_assoc at e)).kind
unique (unknown k h p c r next) (known k' h' p' b kids next') x y w v n e =
    differ k' k v.0 w.0 (sym (same _ _ _ _ _ _ _ _ _ _ _ _ w.1 v.1 (simp append_assoc at e)).kind)
unique (known k h p b kids next) (known k' h' p' b' kids' next') x y w v n e =
    let s = same _ _ _ _ _ _ _ _ _ _ _ _ w.1 v.1 (simp append_assoc at e) in
    let bodies : b ≡ b' = body_prefix p' b b' _ _ (subst (λ i. GoodBody i b) s.properties w.3) v.3 s.rest in
    let following = (cut b b' _ _ (ap length bodies) s.rest).1 in
    let below = cut (encode kids) (encode kids') _ _ (omega (arith, s.size, ap length bodies)) following in
    let kids-same : kids ≡ kids' = unique kids kids' [] [] w.4 v.4 s.children (simp append-nil below.0) in
    let next-same : next ≡ next' = unique next next' x y w.5 v.5 (omega (arith, n)) below.1 in
    rw (s.kind, s.hash, s.properties, bodies, kids-same, next-same)
unique (unknown k h p c r next) (unknown k' h' p' c' r' next') x y w v n e =
    let s = same _ _ _ _ _ _ _ _ _ _ _ _ w.1 v.1 (simp append_assoc at e) in
    let rests = cut r r' _ _ (omega (arith, s.size)) s.rest in
    let next-same : next ≡ next' = unique next next' x y w.3 v.3 (omega (arith, n)) rests.1 in
    rw (s.kind, s.hash, s.properties, s.children, rests.0, next-same)

pub encoding_unique : EncodingUnique
unfolding file_of
encoding_unique a b f g w v e =
    let x = encode f in
    let y = encode g in
    let flags : a ≡ b = sym (file_header_flags (count f) a x w.0) ∙ ap (λ l. number_at 4 l 12) e ∙ file_header_flags (count g) b y v.0 in
    let roots : count f ≡ count g = sym (file_header_roots (count f) a x w.1) ∙ ap (λ l. number_at 4 l 8) e
    ∙ file_header_roots (count g) b y v.1 in
    let bytes : x ≡ y = sym (file_header_drop (count f) a x) ∙ ap (drop 16) e ∙ file_header_drop (count g) b y in
    (flags, unique f g [] [] w.2 v.2 roots (ap (λ l. l ++ []) bytes))
