-- How many verdicts a pass works out, by the vertices that it goes around. Assumes nothing.
use mathlib.Core.Path.{◌≡◌, sym, ◌∙◌}
use mathlib.Core.List.{List, [], ◌∷◌}
use Prim.Native.Nat.{ℕ, ◌+◌, ◌<◌}
use native.Mathlib.Omega.{arith}
use lib.ListN.{length}
use Rattle.tile.specs.declared.Coord.{Coord}
use Rattle.edge_pass.specs.Pass.{leave_off}
use Rattle.edge_pass.specs.Verdicts.{verdicts_around, verdicts}

around-some : (kept : List Coord) → 0 < length kept → verdicts_around kept ≡ length kept + 1
around-some [] h = absurd (omega arith)
around-some (p ∷ r) h = omega arith

module _ (r kept : List Coord) (h : kept ≡ leave_off r) where
  pub verdicts-none : kept ≡ [] → 0 ≡ verdicts r
  unfolding verdicts
  verdicts-none e = rw (← h, e)

  pub verdicts-some : (k : ℕ) → 0 < length kept → k ≡ length kept + 1 → k ≡ verdicts r
  unfolding verdicts
  verdicts-some k s e = rw (← h) (e ∙ sym (around-some kept s))
