-- `bytes::read_word` meets its contract: eight bytes, the lowest first. Assumes nothing.
use mathlib.Core.Path.{refl}
use native.Mathlib.Nat.{add-zero}
use Rattle.std.proofs.Common.{◌≡◌, ◌+◌, ◌<◌, ℕ, slice_index_or, arith}
use Rattle.binary64.proofs.Widths.{read_start, read_step}
use Rattle.binary64.proofs.bytes.read_word.Goals as goal

pub returns : goal.returns
returns c =
    let l = c.args.b.now in
    let a = c.args.at in
    let byte : (i : ℕ) → slice_index_or l i 0 < 256 = λ i. (c.type_inv.b i).fits in
    let n1 = read_step l a 0 _ (omega (arith, c.requires)) (byte (a + 0)) (read_start l a) in
    let n2 = read_step l a 1 _ (omega (arith, c.requires)) (byte (a + 1)) n1 in
    let n3 = read_step l a 2 _ (omega (arith, c.requires)) (byte (a + 2)) n2 in
    let n4 = read_step l a 3 _ (omega (arith, c.requires)) (byte (a + 3)) n3 in
    let n5 = read_step l a 4 _ (omega (arith, c.requires)) (byte (a + 4)) n4 in
    let n6 = read_step l a 5 _ (omega (arith, c.requires)) (byte (a + 5)) n5 in
    let n7 = read_step l a 6 _ (omega (arith, c.requires)) (byte (a + 6)) n6 in
    let n8 = read_step l a 7 _ (omega (arith, c.requires)) (byte (a + 7)) n7 in
    let first : slice_index_or l (a + 0) 0 ≡ slice_index_or l a 0 = rw (add-zero a) refl in
    omega (arith, n8.here, first, c.from_le_bytes.ensures)
