-- `check_call` meets its contract. Assumes nothing.
use mathlib.Core.Path.{sym}
use native.Mathlib.Omega.{arith}
use borrow.Author.Tests.{lt-ltb, le-ltb}
use Rattle.std.proofs.lemmas.Result.{err_from_is_err_and}
use Rattle.frame_bytes.specs.Internal.{Accepted}
use Rattle.frame_bytes.specs.Frame.{read_frame}
use Rattle.frame_bytes.proofs.Rooms.{call-refused, call-room}
use Rattle.frame_bytes.proofs.room.check_call.Goals as goal

pub returns-in_err-check_frame : goal.returns-in_err-check_frame
returns-in_err-check_frame c = let a = c.args in
    let p = err_from_is_err_and c.from_residual.result c.from_residual.ensures.1 in
    rw (p.1, p.2) (sym (call-refused a.frame.now a.out _ (sym c.in_err-check_frame.ensures)))

pub invariant_of-frame_room : goal.invariant_of-frame_room
invariant_of-frame_room c = record { accepted = sym c.in_ok-check_frame.ensures }

pub returns-then-out-frame_room : goal.returns-then-out-frame_room
returns-then-out-frame_room c = let a = c.args in
    let p : Accepted (read_frame a.frame.now) = sym c.in_ok-check_frame.ensures in rw (
      call-room a.frame.now a.out p,
      ← c.frame_room.ensures,
      lt-ltb a.out c.frame_room.result
          (omega arith),
    )

pub returns : goal.returns
returns c = let a = c.args in
    let p : Accepted (read_frame a.frame.now) = sym c.in_ok-check_frame.ensures in rw (
      call-room a.frame.now a.out p,
      ← c.frame_room.ensures,
      le-ltb a.out c.frame_room.result
          (omega arith),
    ) (sym p)
