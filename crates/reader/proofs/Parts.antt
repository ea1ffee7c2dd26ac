-- Where the parts of a first node lie in a file: its body, the nodes below it and those next to it.
use Prim.Native.Nat.{ℕ, ◌+◌, ◌-◌}
use native.Mathlib.Omega.{arith}
use mathlib.Core.Path.{◌≡◌, ap, sym, ◌∙◌}
use mathlib.Core.List.{List, [], ◌++◌, append_assoc, append-nil}
use lib.ListN.{length, take, drop, length-append}
use Rattle.format.specs.Forest.{Forest, known, unknown, count, header, encode, file_header, file_of}
use Rattle.format.proofs.Headers.{length_header, length_file_header}
use Rattle.format.proofs.Rows.{part}

-- some bytes of the file come before nodes at a place, and others after them
pub record Lie (s : List ℕ) (f : Forest) (post : List ℕ) (at : ℕ) : Type 0 where
  pub pre : List ℕ
  pub bytes : s ≡ pre ++ (encode f ++ post)
  pub place : at ≡ length pre

module _ (s post : List ℕ) (at k h ps : ℕ) where
  module _ (body : List ℕ) (kids next : Forest) where
    pub record KnownParts : Type 0 where
      pub body_here : take (at + 24 + length body - (at + 24)) (drop (at + 24) s) ≡ body
      pub below : Lie s kids (encode next ++ post) (at + 24 + length body)
      pub beside : Lie s next post (at + 24 + length body + length (encode kids))

    pub known_parts : Lie s (known k h ps body kids next) post at → KnownParts
    known_parts l =
        let pre = l.pre in
        let hd = header k (24 + length body + length (encode kids)) h ps (count kids) in
        let whole : s ≡ (pre ++ hd) ++ (body ++ (encode kids ++ (encode next ++ post))) = l.bytes ∙ simp append_assoc in
        let start : at + 24 ≡ length (pre ++ hd) = simp (length-append, length_header) (omega (arith, l.place)) in
        record {
          body_here = part s (pre ++ hd) body (encode kids ++ (encode next ++ post)) (at + 24) whole start;
          below = record {
            pre = (pre ++ hd) ++ body;
            bytes = l.bytes ∙ simp append_assoc;
            place = simp (length-append, length_header) (omega (arith, l.place));
          };
          beside = record {
            pre = ((pre ++ hd) ++ body) ++ encode kids;
            bytes = l.bytes ∙ simp append_assoc;
            place = simp (length-append, length_header) (omega (arith, l.place));
          };
        }

  pub after_unknown : (c : ℕ) (rest : List ℕ) (next : Forest) → Lie s (unknown k h ps c rest next) post at → Lie s next post (at + 24 + length rest)
  after_unknown c rest next l =
      let hd = header k (24 + length rest) h ps c in
      record {
        pre = (l.pre ++ hd) ++ rest;
        bytes = l.bytes ∙ simp append_assoc;
        place = simp (length-append, length_header) (omega (arith, l.place));
      }

-- a file's nodes lie after its header
pub file_lies : (s : List ℕ) (flags : ℕ) (f : Forest) → s ≡ file_of flags f → Lie s f [] 16
unfolding file_of
file_lies s flags f e = record {
  pre = file_header (count f) flags;
  bytes = e ∙ ap (λ l. file_header (count f) flags ++ l) (sym (append-nil (encode f)));
  place = sym (length_file_header (count f) flags);
}
