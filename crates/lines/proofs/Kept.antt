-- The bytes of a line, kept at the front of a slice that holds the longest frame. Assumes nothing.
use mathlib.Core.Path.{◌≡◌}
use mathlib.Core.Bool.{false}
use mathlib.Core.List.{List}
use Prim.Native.Nat.{ℕ, ◌+◌, ◌*◌, ◌≤◌, ◌<◌}
use native.Mathlib.Numerals.{add-one}
use native.Mathlib.Omega.{arith}
use lib.ListN.{length, take, set, length-take}
use lib.Seq.{take-suc-set}
use borrow.Author.Tests.{lt-ltb, le-ltb}
use Rattle.frame_bytes.specs.Frame.{longest}
use Rattle.lines.specs.Internal.{whole, half, long, take_digit}

module _ (l : List ℕ) (n high d : ℕ) (sized : longest ≤ length l) where
  pub byte_kept : n < longest → whole (take (n + 1) (set l n (high * 16 + d))) ≡ take_digit (half (take n l) high) d
  byte_kept h =
      let inside : n < length l = omega (arith, h, sized) in
      let short : length (take n l) < longest = omega (arith, h, length-take n l) in
      rw (add-one, take-suc-set l n (high * 16 + d) inside, lt-ltb (length (take n l)) longest short)

  pub no_byte_kept : longest ≤ n → long false ≡ take_digit (half (take n l) high) d
  no_byte_kept h =
      let all : longest ≤ length (take n l) = omega (arith, h, sized, length-take n l) in
      rw (le-ltb (length (take n l)) longest all)
