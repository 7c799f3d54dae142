-- `has_room` meets its contract. Assumes nothing.
use mathlib.Core.Path.{◌≡◌}
use mathlib.Core.List.{[], ◌∷◌}
use borrow.Author.Rules.{rules}
use lib.Dec.{leb}
use Rattle.std.specs.List.{list_all}
use Rattle.replay.specs.Lent.{most_lent}
use Rattle.replay.specs.Calls.{slice_fits}
use Rattle.replay.proofs.slice_vectors.has_room.Goals as goal

pub returns : goal.returns
unfolding slice_fits
returns c =
    let h = c.args.head in
    let all : c.all.result ≡ list_all (λ n. leb n most_lent) (h.scratch ∷ h.origin_scratch ∷ h.order ∷ h.out ∷ h.out_lengths ∷ h.out_origins ∷ []) = search rules in
    all
