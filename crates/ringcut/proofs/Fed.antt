-- A block whose answers are written out in between. Assumes nothing.
use mathlib.Core.Path.{◌≡◌, sym, ◌∙◌, ap}
use mathlib.Core.List.{List, [], ◌++◌}
use Prim.Native.Nat.{ℕ, ◌+◌, ◌≤◌}
use native.Mathlib.Omega.{arith}
use lib.ListN.{length, take, drop, length-drop, take-append-drop}
use lib.Seq.{take-append_seam}
use Rattle.std.proofs.Common.{Option}
use Rattle.std.specs.Io.KnownBytes.{Appends}
use Rattle.std.proofs.KnownBytes.{Appends-nil, Appends-trans}
use Rattle.lines.specs.declared.line.Line.{Line}
use Rattle.lines.specs.LineStep.{printed_now, GoesOn, Prints}
use Rattle.lines.specs.Internal.{FeedsLines}
use Rattle.lines.proofs.Feeding.{prints-nothing}
use Rattle.lines.proofs.Parts.{now_then, goes_on-then}
use Rattle.lines.proofs.Running.{take-both}
use Rattle.ringcut.specs.Streams.{AppendsSome}
use Rattle.ringcut.proofs.Written.{some_then}

-- what stands at the front of the output is what is printed now
pub written_now : {characters : List ℕ} {line line' : Line} {kept kept' out out' : List ℕ} {written : ℕ}
    → Prints characters line kept out written line' kept' out' → take written out' ≡ printed_now line kept characters
written_now {characters} {line} {kept = kept} p = rw (p.count, p.output) (take-append_seam (printed_now line kept characters) _)

nothing_now : (line : Line) (kept : List ℕ) → printed_now line kept [] ≡ []
nothing_now line kept = sym (written_now (prints-nothing line kept []))

-- before the first part
pub none_answered : (held : Option (List ℕ)) (line : Line) (kept : List ℕ) → Appends held held (printed_now line kept [])
none_answered held line kept = rw (nothing_now line kept) (Appends-nil held)

module _ (block : List ℕ) (at : ℕ) (line : Line) (kept : List ℕ) {line₁ line₂ : Line} {kept₁ kept₂ out out' : List ℕ} {taken written : ℕ}
    (h : at ≤ length block) (on : GoesOn (take at block) line kept line₁ kept₁)
    (f : FeedsLines (drop at block) line₁ kept₁ out taken written line₂ kept₂ out') where
  pub part-within : at + taken ≤ length block
  part-within = omega (arith, f.within, length-drop at block)

  pub part-goes-on : GoesOn (take (at + taken) block) line kept line₂ kept₂
  part-goes-on = goes_on-then block at taken line line₁ line₂ kept kept₁ kept₂ h on f.prints.goes_on

  module _ (held₀ held held' : Option (List ℕ)) (before : Appends held₀ held (printed_now line kept (take at block))) where
    -- it was written
    pub part-answered : Appends held held' (take written out') → Appends held₀ held' (printed_now line kept (take (at + taken) block))
    part-answered wrote =
        let part = take taken (drop at block) in
        rw (take-both at taken block h, now_then (take at block) line kept line₁ kept₁ on part, ← written_now f.prints)
        (Appends-trans held₀ held held' (printed_now line kept (take at block)) (take written out') before wrote)

    -- some of it was
    pub part-failed : AppendsSome held held' (take written out') → AppendsSome held₀ held' (printed_now line kept block)
    part-failed wrote =
        let part = drop at block in
        let rest = drop taken part in
        let first : printed_now line₁ kept₁ part ≡ take written out' ++ printed_now line₂ kept₂ rest =
        ap (printed_now line₁ kept₁) (sym (take-append-drop taken part))
        ∙ now_then (take taken part) line₁ kept₁ line₂ kept₂ f.prints.goes_on rest
        ∙ ap (λ (l : List ℕ). l ++ printed_now line₂ kept₂ rest) (sym (written_now f.prints)) in
        let all : printed_now line kept block
        ≡ printed_now line kept (take at block) ++ (take written out' ++ printed_now line₂ kept₂ rest) =
        ap (printed_now line kept) (sym (take-append-drop at block))
        ∙ now_then (take at block) line kept line₁ kept₁ on part
        ∙ ap (λ (l : List ℕ). printed_now line kept (take at block) ++ l) first in
        some_then held₀ held held' (printed_now line kept block) (printed_now line kept (take at block)) (take written out')
        (printed_now line₂ kept₂ rest) all before wrote
