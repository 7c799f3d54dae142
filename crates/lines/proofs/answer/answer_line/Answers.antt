-- `answer_line` meets its contract. Assumes nothing.
use mathlib.Core.Path.{◌≡◌, sym, ◌∙◌, ap}
use mathlib.Core.List.{List, ◌++◌}
use Prim.Native.Nat.{ℕ, ◌≤◌}
use native.Mathlib.Omega.{arith}
use lib.ListN.{length, take, drop}
use lib.Seq.{length-take-le}
use Rattle.binary64.specs.Slices.{over}
use Rattle.lines.specs.Lines.{hex_line}
use Rattle.lines.specs.LineStep.{answer_room}
use Rattle.lines.specs.Internal.{end_answer, state_of}
use Rattle.lines.proofs.Answers.{part-fits, part-over, answer-front, line-over}
use Rattle.lines.proofs.answer.answer_line.Goals as goal

pub slice_bounds-answer-end-2 : goal.slice_bounds-answer-end-2
slice_bounds-answer-end-2 c = sym (length-take-le answer_room c.args.out.now (omega (arith, c.requires)))

pub answer-count-requires : goal.answer-count-requires
answer-count-requires c = omega (arith, length-take-le answer_room c.args.out.now (omega (arith, c.requires)))

pub to_line-requires : goal.to_line-requires
to_line-requires c = let a = c.args in
    let e = c.answer-count.ensures in
    let room : answer_room ≤ length a.out.now = omega (arith, c.requires) in
    let same = c.out-1.given in
    let fits = part-fits (end_answer (state_of a.line a.kept.now)) a.out.now
    c.answer-count.new.out answer_room room e.output same.0 in omega (arith, e.answer, fits, same.1, c.requires)

pub returns-clause-output : goal.returns-clause-output
returns-clause-output c = let a = c.args in
    let answer = end_answer (state_of a.line a.kept.now) in
    let out = c.args.out.now in
    let part = c.answer-count.new.out in
    let e = c.answer-count.ensures in
    let room : answer_room ≤ length out =
    omega (arith, c.requires) in
    let t = c.to_line.ensures in
    let whole : part ++ drop answer_room out ≡ over answer out = part-over answer out part answer_room room e.output
    c.out-1.given.0 in
    let front : take c.answer-count.result (part ++ drop answer_room out) ≡ answer =
    rw (whole, e.answer) (answer-front answer out) in t.1 ∙ ap (λ (l : List ℕ). over (hex_line l) (part ++ drop answer_room out))
    front ∙ ap (over (hex_line answer)) whole ∙ line-over answer out
