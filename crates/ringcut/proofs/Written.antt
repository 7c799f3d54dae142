-- Bytes of which some were written, and what is left of them. Assumes nothing.
use Rattle.std.proofs.Common.{◌≡◌, ℕ, ◌-◌, Option, List, ◌++◌, length, take, drop, sym, ap, ◌∙◌, subst}
use Rattle.std.proofs.Common.{append_assoc, append-nil, take-append-drop}
use Rattle.std.proofs.lemmas.List.{take_rest}
use lib.Seq.{take-append_seam}
use Rattle.std.specs.Io.KnownBytes.{Appends}
use Rattle.std.proofs.KnownBytes.{Appends-trans}
use Rattle.ringcut.specs.Streams.{AppendsSome}

-- a write took the front of what was left
pub moves_front : (all done rest : List ℕ) (n : ℕ) → all ≡ done ++ rest
    → all ≡ (done ++ take n rest) ++ take (length rest - n) (drop n rest)
moves_front all done rest n e =
    e ∙ ap (λ (l : List ℕ). done ++ l) (sym (take-append-drop n rest)) ∙ sym (append_assoc done (take n rest) (drop n rest))
    ∙ ap (λ (l : List ℕ). (done ++ take n rest) ++ l) (sym (take_rest rest n))

-- a write took nothing
pub nothing_more : (a b c : Option (List ℕ)) (done rest : List ℕ) (n : ℕ) → n ≡ 0 → Appends a b done → Appends b c (take n rest)
    → Appends a c done
nothing_more a b c done rest n e p q =
    subst (Appends a c) (ap (λ (k : ℕ). done ++ take k rest) e ∙ append-nil done) (Appends-trans a b c done (take n rest) p q)

-- what was written is the front of these
pub some_written : (a b : Option (List ℕ)) (all done rest : List ℕ) → all ≡ done ++ rest → Appends a b done → AppendsSome a b all
some_written a b all done rest e p =
    (length done, subst (Appends a b) (sym (ap (take (length done)) e ∙ take-append_seam done rest)) p)

-- bytes were written, and then some of those behind them
pub some_then : (a b c : Option (List ℕ)) (all x y z : List ℕ) → all ≡ x ++ (y ++ z) → Appends a b x → AppendsSome b c y
    → AppendsSome a c all
some_then a b c all x y z e p (n, q) =
    let split : all ≡ (x ++ take n y) ++ (drop n y ++ z) =
    e ∙ ap (λ (l : List ℕ). x ++ (l ++ z)) (sym (take-append-drop n y)) ∙ ap (λ (l : List ℕ). x ++ l) (append_assoc (take n y) (drop n y) z)
    ∙ sym (append_assoc x (take n y) (drop n y ++ z)) in
    some_written a c all (x ++ take n y) (drop n y ++ z) split (Appends-trans a b c x (take n y) p q)
