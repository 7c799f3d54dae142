-- The table keeps the rule of its type: that rule is a test at each of its entries, which is computed. Assumes nothing.
use mathlib.Core.List.{List, ◌∷◌, ◌++◌}
use mathlib.Core.Bool.{Bool}
use Prim.Native.Nat.{ℕ}
use lib.Dec.{eqb, eqb→eq}
use lib.ListN.{get_or, replicate}
use Rattle.lines.specs.Lines.{digit}
use Rattle.lines.proofs.Table.{at}
use Rattle.lines.proofs.digits.digit_values.Goals as goal

values : List ℕ
values =
    replicate 48 16
    ++ (0 ∷ 1 ∷ 2 ∷ 3 ∷ 4 ∷ 5 ∷ 6 ∷ 7 ∷ 8 ∷ 9 ∷ replicate 7 16)
    ++ (10 ∷ 11 ∷ 12 ∷ 13 ∷ 14 ∷ 15 ∷ replicate 26 16)
    ++ (10 ∷ 11 ∷ 12 ∷ 13 ∷ 14 ∷ 15 ∷ replicate 153 16)

right : ℕ → ℕ → Bool
right k x = eqb x (digit k)

pub invariant_of-result : goal.invariant_of-result
unfolding values right digit
invariant_of-result c = record { known = λ b h. eqb→eq (get_or values b 0) (digit b) (at right values tt b h) }
