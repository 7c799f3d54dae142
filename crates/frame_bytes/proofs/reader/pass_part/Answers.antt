-- `pass_part` meets its contract: each return is one of the ways in which a part is read or refused. Assumes nothing.
use mathlib.Core.Path.{◌≡◌, sym, ◌∙◌}
use mathlib.Core.Bool.{true, false}
use native.Mathlib.Omega.{arith}
use borrow.Author.Rules.{rules, of_calls}
use lib.ListN.{drop, length-drop}
use lib.Seq.{drop-drop}
use Rattle.frame_bytes.specs.Frame.{wrong_ring_count, count_of, read_ring}
use Rattle.frame_bytes.proofs.Walks.{part_without_count, part-refused, part-whole, steps_walked, steps_passable}
use Rattle.frame_bytes.proofs.Readings.{ring_reads}
use Rattle.frame_bytes.proofs.reader.pass_part.Goals as goal

pub returns-then-is_wrong_ring_count : goal.returns-then-is_wrong_ring_count
returns-then-is_wrong_ring_count c = let a = c.args in
    let l = drop a.at a.frame.now in
    let n = c.count_at-rings.ensures.0 in
    let w : wrong_ring_count (count_of l) ≡ true = rw (← n) (sym c.is_wrong_ring_count.ensures ∙ c.if-is_wrong_ring_count.true) in rw (part-refused l (omega (arith, length-drop a.at a.frame.now)) w)

pub returns-then-frame-at-ge-COUNT : goal.returns-then-frame-at-ge-COUNT
returns-then-frame-at-ge-COUNT c = let a = c.args in
    let l = drop a.at a.frame.now in
    let n = c.count_at-rings.ensures.0 in
    let w : wrong_ring_count (count_of l) ≡ false = rw (← n) (sym c.is_wrong_ring_count.ensures ∙ c.if-is_wrong_ring_count.false) in rw (part-whole l (omega (arith, length-drop a.at a.frame.now)) w, drop-drop 2 a.at a.frame.now, ← n)
    (steps_walked read_ring ring_reads a.frame.now _ (λ at r h e. search (rules, of_calls)) _ _ _ (omega (arith, c.if-frame-at-ge-COUNT.true, c.requires)) c.pass_many.ensures)

pub returns : goal.returns
returns c = let a = c.args in rw (part_without_count (drop a.at a.frame.now) (omega (arith, length-drop a.at a.frame.now)))

pub pass_many-requires : goal.pass_many-requires
pass_many-requires c = steps_passable read_ring ring_reads c.args.frame.now _ (λ at r h e. search (rules, of_calls)) _ (λ at h. search (rules, of_calls)) _ _ (omega (arith, c.if-frame-at-ge-COUNT.true, c.requires))
