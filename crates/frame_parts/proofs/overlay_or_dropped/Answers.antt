-- `overlay_or_dropped` meets its contract: the two cases of the definition. Assumes nothing.
use mathlib.Core.Path.{◌≡◌, sym, ◌∙◌, ap}
use mathlib.Core.Bool.{true, false}
use Prim.Native.Nat.{ℕ}
use native.Mathlib.Omega.{arith}
use lib.ListN.{drop}
use Rattle.rings.specs.Representable.{any_huge_ring}
use Rattle.clip.specs.Polygon.{overlay_or_dropped}
use Rattle.frame_bytes.specs.Frame.{read_part}
use Rattle.frame_bytes.specs.Internal.{part_at}
use Rattle.frame_parts.specs.declared.PartAnswer.TheVariants.{Listed}
use Rattle.frame_parts.proofs.CutParts.{huge-in, overlay-length, overlay-written}
use Rattle.frame_parts.proofs.overlay_or_dropped.Goals as goal

pub returns-then-part_has_huge-clause-value : goal.returns-then-part_has_huge-clause-value
unfolding overlay_or_dropped
returns-then-part_has_huge-clause-value c = let a = c.args in
    let e : any_huge_ring (part_at a.part.frame.now a.part.at) ≡ true =
    sym (c.part_has_huge.ensures ∙ huge-in (read_part (drop a.part.at a.part.frame.now))) ∙ c.if-part_has_huge.true in rw e

pub returns-then-part_has_huge-clause-out_after : goal.returns-then-part_has_huge-clause-out_after
unfolding overlay_or_dropped
returns-then-part_has_huge-clause-out_after c = let a = c.args in
    let e : any_huge_ring (part_at a.part.frame.now a.part.at) ≡ true =
    sym (c.part_has_huge.ensures ∙ huge-in (read_part (drop a.part.at a.part.frame.now))) ∙ c.if-part_has_huge.true in rw e

pub returns-clause-value : goal.returns-clause-value
unfolding overlay_or_dropped
returns-clause-value c = let a = c.args in
    let e : any_huge_ring (part_at a.part.frame.now a.part.at) ≡ false =
    sym (c.part_has_huge.ensures ∙ huge-in (read_part (drop a.part.at a.part.frame.now))) ∙ c.if-part_has_huge.false in rw e (ap (λ (k : ℕ). Listed k) (omega (arith, overlay-length a.index a.reason)))

pub returns-clause-out_after : goal.returns-clause-out_after
unfolding overlay_or_dropped
returns-clause-out_after c = let a = c.args in
    let e : any_huge_ring (part_at a.part.frame.now a.part.at) ≡ false =
    sym (c.part_has_huge.ensures ∙ huge-in (read_part (drop a.part.at a.part.frame.now))) ∙ c.if-part_has_huge.false in rw e (overlay-written a.index a.reason _
    c.from-detail.ensures a.to a.out.now _ _ _
    c.put_part.ensures
    c.put_count.ensures c.put_count-2.ensures)
