-- What holds of every vertex after a pass, from what holds of what the line keeps and of where it crosses. Assumes nothing.
use mathlib.Core.Path.{◌≡◌, refl}
use mathlib.Core.Bool.{Bool, true, false, not, cond}
use mathlib.Core.List.{List, [], ◌∷◌, ◌++◌}
use Prim.Native.Nat.{ℕ, zero, suc, ◌-◌}
use lib.Dec.{T, leb}
use lib.ListN.{length, take}
use Rattle.binary64.specs.Lists.{Every}
use Rattle.tile.specs.declared.Coord.{Coord}
use Rattle.tile.specs.declared.TileBounds.{TileBounds}
use Rattle.tile.specs.declared.Edge.{Edge}
use Rattle.tile.specs.Ring.{last, closed, close}
use Rattle.cutting_lines.specs.CuttingLines.{inside, crossing}
use Rattle.edge_pass.specs.Pass.{step, steps, leave_off, around, pass}
use Rattle.sutherland_hodgman.specs.Clip.{finish}

-- where the ends of an edge satisfy P, what the line keeps and where it crosses satisfy Q
pub record Turns (P Q : Coord → Type 0) (l : Edge) (b : TileBounds) : Type 0 where
  pub keeps : (p : Coord) → P p → T (inside l b p) → Q p
  pub crosses : (s e : Coord) (i : Bool) → P s → P e → inside l b s ≡ i → inside l b e ≡ not i → Q (crossing l b s e)

-- ---- the vertices of a ring, as a pass takes them
module _ (P : Coord → Type 0) where
  every_append : (r t : List Coord) → Every P r → Every P t → Every P (r ++ t)
  every_append [] t h k = k
  every_append (p ∷ r) t h k = (h.0, every_append r t h.1 k)

  every-last : (p : Coord) (r : List Coord) → P p → Every P r → P (last p r)
  unfolding last
  every-last p [] h k = h
  every-last p (q ∷ r) h k = every-last q r k.0 k.1

  pub every_take : (n : ℕ) (r : List Coord) → Every P r → Every P (take n r)
  every_take zero r h = tt
  every_take (suc n) [] h = tt
  every_take (suc n) (p ∷ r) h = (h.0, every_take n r h.1)

  every-cond : (c : Bool) (r t : List Coord) → Every P r → Every P t → Every P (cond c r t)
  every-cond true r t h k = h
  every-cond false r t h k = k

  every-leave_off : (r : List Coord) → Every P r → Every P (leave_off r)
  unfolding leave_off
  every-leave_off [] h = h
  every-leave_off (p ∷ []) h = h
  every-leave_off (p ∷ q ∷ r) h = every-cond (closed (p ∷ q ∷ r)) _ (p ∷ q ∷ r) (every_take (length (p ∷ q ∷ r) - 1) (p ∷ q ∷ r) h) h

  every-close : (r : List Coord) → Every P r → Every P (close r)
  unfolding close
  every-close [] h = tt
  every-close (p ∷ r) h = every-cond (closed (p ∷ r)) (p ∷ r) ((p ∷ r) ++ (p ∷ [])) h (every_append (p ∷ r) (p ∷ []) h (h.0, tt))

  pub every-finish : (r : List Coord) → Every P r → Every P (finish r)
  unfolding finish
  every-finish r h = every-cond (leb 3 (length r)) (close r) [] (every-close r h) tt

pub every_map : (P Q : Coord → Type 0) (r : List Coord) → ((p : Coord) → P p → Q p) → Every P r → Every Q r
every_map P Q [] g h = tt
every_map P Q (p ∷ r) g h = (g p h.0, every_map P Q r g h.1)

pub every-both : (P Q : Coord → Type 0) (r : List Coord) → Every P r → Every Q r → Every (λ p. P p × Q p) r
every-both P Q [] h k = tt
every-both P Q (p ∷ r) h k = ((h.0, k.0), every-both P Q r h.1 k.1)

pub every-of-all : (P : Coord → Type 0) (r : List Coord) → ((p : Coord) → P p) → Every P r
every-of-all P [] g = tt
every-of-all P (p ∷ r) g = (g p, every-of-all P r g)

-- ---- a pass
module _ (P Q : Coord → Type 0) (l : Edge) (b : TileBounds) (w : Turns P Q l b) where
  stepped : (s e : Coord) (v f : Bool) → P s → P e → inside l b s ≡ v → inside l b e ≡ f → Every Q (step v f (crossing l b s e) e)
  stepped s e true true hs he p q = (w.keeps e he (rw q tt), tt)
  stepped s e true false hs he p q = (w.crosses s e true hs he p q, tt)
  stepped s e false true hs he p q = (w.crosses s e false hs he p q, (w.keeps e he (rw q tt), tt))
  stepped s e false false hs he p q = tt

  walked : (s : Coord) (r : List Coord) → P s → Every P r → Every Q (steps l b (inside l b s) s r)
  unfolding steps
  walked s [] hs hr = tt
  walked s (e ∷ r) hs hr =
      every_append Q (step (inside l b s) (inside l b e) (crossing l b s e) e) (steps l b (inside l b e) e r)
      (stepped s e (inside l b s) (inside l b e) hs hr.0 refl refl) (walked e r hr.0 hr.1)

  went_around : (r : List Coord) → Every P r → Every Q (around l b r)
  unfolding around
  went_around [] h = tt
  went_around (p ∷ r) h = walked (last p r) (p ∷ r) (every-last P p r h.0 h.1) h

  pub passed : (r : List Coord) → Every P r → Every Q (pass l b r)
  unfolding pass
  passed r h = went_around (leave_off r) (every-leave_off P r h)
