-- Two closed segments share a point exactly if their boxes are not apart and neither has both ends strictly on one side of the other's
-- line. Assumes nothing.
use Rattle.std.proofs.Common.{◌≡◌, ℕ, ◌+◌, ◌-◌, ◌*◌, ◌<◌, ◌≤◌, min, max, Bool, true, false, not, ◌&&◌, ◌||◌, ltb, ◌⊎◌, sym, refl, ap, ◌∙◌, inl, inr, ⊎_elim, mul_assoc, mul_comm, mul-le-mul_left, mul_left_comm, arith, ltb-false, ltb-true, lt-ltb}
use mathlib.Mathlib.Data.Bool.Basic.{eq-false_of_not-eq-true}
use native.Mathlib.Decide.{ℕ_discrete, dec_lt}
use borrow.Author.Tests.{not-true}
use Rattle.binary64.proofs.Booleans.{both, neither, never_both}
use Rattle.exact.specs.Segments.{Point, SharedPoint, Decides, shoelace, is_left, both_left, one_side, ranges_apart, boxes_apart, shares_point}

-- ---- the same point, said of the segments in another order

pub other_way : {a b c d : Point} → SharedPoint a b c d → SharedPoint b a c d
other_way z = record {
  r = z.s;
  s = z.r;
  u = z.u;
  t = z.t;
  some = omega (arith, z.some);
  same_weight = omega (arith, z.same_weight);
  same_x = omega (arith, z.same_x);
  same_y = omega (arith, z.same_y);
}

pub other_first : {a b c d : Point} → SharedPoint a b c d → SharedPoint c d a b
other_first z = record {
  r = z.u;
  s = z.t;
  u = z.r;
  t = z.s;
  some = omega (arith, z.some, z.same_weight);
  same_weight = sym z.same_weight;
  same_x = sym z.same_x;
  same_y = sym z.same_y;
}

second_way : {a b c d : Point} → SharedPoint a b c d → SharedPoint a b d c
second_way z = other_first (other_way (other_first z))

-- x and y exchanged: a mirror, in which left is right
abbrev mirrored : Point → Point
mirrored p = record { x = p.y; y = p.x }

unmirrored : {a b c d : Point} → SharedPoint (mirrored a) (mirrored b) (mirrored c) (mirrored d) → SharedPoint a b c d
unmirrored z = record {
  r = z.r;
  s = z.s;
  u = z.u;
  t = z.t;
  some = z.some;
  same_weight = z.same_weight;
  same_x = z.same_y;
  same_y = z.same_x;
}

-- ---- a shared point is in both boxes

times_sum : (x y x' y' v : ℕ) → x + y ≡ x' + y' → x * v + y * v ≡ x' * v + y' * v
times_sum x y x' y' v e = go x y ∙ ap (λ (n : ℕ). n * v) e ∙ sym (go x' y')
  where
    go : (x y : ℕ) → x * v + y * v ≡ (x + y) * v
    go x y = omega arith

-- what lies from a to b is not below what lies from c to d
not-below : (a b c d r s u t : ℕ) → 0 < r + s → r + s ≡ u + t → r * a + s * b ≡ u * c + t * d → max a b < min c d → ⊥
not-below a b c d r s u t k w e l = go (max a b) (min c d) l (omega arith) (omega arith) (omega arith) (omega arith)
  where
    go : (M m : ℕ) → M < m → a ≤ M → b ≤ M → m ≤ c → m ≤ d → ⊥
    go M m p q h i j =
        omega (
          arith,
          mul-le-mul_left r q,
          mul-le-mul_left s h,
          mul-le-mul_left u i,
          mul-le-mul_left t j,
          mul-le-mul_left (r + s) p,
          times_sum r s u t m w,
        )

-- ---- and not strictly on one side

balance : (ax ay bx by cx cy dx dy r s u t : ℕ) → r + s ≡ u + t → r * ax + s * bx ≡ u * cx + t * dx → r * ay + s * by ≡ u * cy + t * dy
    → u * (ax * by + bx * cy + cx * ay) + t * (ax * by + bx * dy + dx * ay) ≡ u * (bx * ay + ax * cy + cx * by) + t *
    (bx * ay + ax * dy + dx * by)
balance ax ay bx by cx cy dx dy r s u t w ex ey =
    let a = simp (mul_assoc, mul_comm, mul_left_comm) at (times_sum (r * ay) (s * by) (u * cy) (t * dy) bx ey) in
    let b = simp (mul_assoc, mul_comm, mul_left_comm) at (times_sum (r * ax) (s * bx) (u * cx) (t * dx) ay ex) in
    let c = simp (mul_assoc, mul_comm, mul_left_comm) at (times_sum (r * ax) (s * bx) (u * cx) (t * dx) by ex) in
    let d = simp (mul_assoc, mul_comm, mul_left_comm) at (times_sum (r * ay) (s * by) (u * cy) (t * dy) ax ey) in
    let e = simp (mul_comm, mul_left_comm) at (times_sum r s u t (ax * by) w) in
    let f = simp (mul_comm, mul_left_comm) at (times_sum r s u t (bx * ay) w) in
    spread (ax * by) (bx * cy) (cx * ay) (ax * by) (bx * dy) (dx * ay)
    ∙ simp (mul_comm, mul_left_comm) (omega (arith, a, b, c, d, e, f))
    ∙ sym (spread (bx * ay) (ax * cy) (cx * by) (bx * ay) (ax * dy) (dx * by))
  where
    spread : (x y z x' y' z' : ℕ) → u * (x + y + z) + t * (x' + y' + z') ≡ u * x + u * y + u * z + (t * x' + t * y' + t * z')
    spread x y z x' y' z' = omega arith

not_left : (a b c d : Point) → SharedPoint a b c d → shoelace b a c < shoelace a b c → shoelace b a d < shoelace a b d → ⊥
not_left a b c d z p q =
    go (shoelace a b c) (shoelace b a c) (shoelace a b d) (shoelace b a d) z.u z.t (omega (arith, z.some, z.same_weight))
    (balance a.x a.y b.x b.y c.x c.y d.x d.y z.r z.s z.u z.t z.same_weight z.same_x
    z.same_y) p q
  where
    go : (L R L' R' u t : ℕ) → 0 < u + t → u * L + t * L' ≡ u * R + t * R' → R < L → R' < L' → ⊥
    go L R L' R' u t k e p q = omega (arith, mul-le-mul_left u p, mul-le-mul_left t q, k, e)

-- ---- c left, d right, b left, a right: the four sides are the weights

times_side : (v w x y z x' y' z' : ℕ) → x + y + z + w ≡ x' + y' + z' → x * v + y * v + z * v + w * v ≡ x' * v + y' * v + z' * v
times_side v w x y z x' y' z' e = sym (go x y z w) ∙ ap (λ (n : ℕ). n * v) e ∙ spread x' y' z'
  where
    go : (x y z w : ℕ) → (x + y + z + w) * v ≡ x * v + y * v + z * v + w * v
    go x y z w = omega arith

    spread : (x y z : ℕ) → (x + y + z) * v ≡ x * v + y * v + z * v
    spread x y z = omega arith

-- how far c lies left of the line from a to b, d right of it, b left of the line from c to d, a right of it
record Weights (a b c d : Point) (t u r s : ℕ) : Type 0 where
  c_left : shoelace b a c + t ≡ shoelace a b c
  d_right : shoelace a b d + u ≡ shoelace b a d
  b-left : shoelace d c b + r ≡ shoelace c d b
  a-right : shoelace c d a + s ≡ shoelace d c a

weigh_x : (a b c d : Point) (t u r s : ℕ) → Weights a b c d t u r s → r * a.x + s * b.x ≡ u * c.x + t * d.x
weigh_x a b c d t u r s w = go a.x a.y b.x b.y c.x c.y d.x d.y w.c_left w.d_right w.b-left w.a-right
  where
    go : (ax ay bx by cx cy dx dy : ℕ) → bx * ay + ax * cy + cx * by + t ≡ ax * by + bx * cy + cx * ay
        → ax * by + bx * dy + dx * ay + u ≡ bx * ay + ax * dy + dx * by
        → dx * cy + cx * by + bx * dy + r ≡ cx * dy + dx * by + bx * cy → cx * dy + dx * ay + ax * cy + s ≡ dx * cy + cx * ay + ax * dy
        → r * ax + s * bx ≡ u * cx + t * dx
    go ax ay bx by cx cy dx dy e f g h =
        let e' = simp (mul_assoc, mul_comm) at (times_side dx t (bx * ay) (ax * cy) (cx * by) (ax * by) (bx * cy) (cx * ay) e) in
        let f' = simp (mul_assoc, mul_comm) at (times_side cx u (ax * by) (bx * dy) (dx * ay) (bx * ay) (ax * dy) (dx * by) f) in
        let g' = simp (mul_assoc, mul_comm, mul_left_comm) at
        (times_side ax r (dx * cy) (cx * by) (bx * dy) (cx * dy) (dx * by) (bx * cy) g) in
        let h' = simp (mul_assoc, mul_comm, mul_left_comm) at
        (times_side bx s (cx * dy) (dx * ay) (ax * cy) (dx * cy) (cx * ay) (ax * dy) h) in
        omega (arith, e', f', g', h')

-- in the mirror c and d change places
weights_mirrored : (a b c d : Point) (t u r s : ℕ) → Weights a b c d t u r s
    → Weights (mirrored a) (mirrored b) (mirrored d) (mirrored c) u t r s
weights_mirrored a b c d t u r s w = record {
  c_left = omega (arith, w.d_right);
  d_right = omega (arith, w.c_left);
  b-left = omega (arith, w.b-left);
  a-right = omega (arith, w.a-right);
}

weighed : (a b c d : Point) (t u r s : ℕ) → Weights a b c d t u r s → 0 < r + s → SharedPoint a b c d
weighed a b c d t u r s w k = record {
  r = r;
  s = s;
  u = u;
  t = t;
  some = k;
  same_weight = omega (arith, w.c_left, w.d_right, w.b-left, w.a-right);
  same_x = weigh_x a b c d t u r s w;
  same_y = omega (arith, weigh_x (mirrored a) (mirrored b) (mirrored d) (mirrored c) u t r s (weights_mirrored a b c d t u r s w));
}

-- not both c and d are strictly left of the line from a to b
abbrev NotLeft : Point → Point → Point → Point → Type 0
NotLeft a b c d = shoelace b a c < shoelace a b c → shoelace b a d < shoelace a b d → ⊥

-- neither segment has both ends strictly on one side of the other's line
record Astride (a b c d : Point) : Type 0 where
  cd_left : NotLeft a b c d
  cd_right : NotLeft b a c d
  ab_left : NotLeft c d a b
  ab_right : NotLeft d c a b

astride_other_way : {a b c d : Point} → Astride a b c d → Astride b a c d
astride_other_way h = record {
  cd_left = h.cd_right;
  cd_right = h.cd_left;
  ab_left = λ p q. h.ab_left q p;
  ab_right =
      λ p q. h.ab_right q p;
}

astride_second_way : {a b c d : Point} → Astride a b c d → Astride a b d c
astride_second_way h = record {
  cd_left = λ p q. h.cd_left q p;
  cd_right =
      λ p q. h.cd_right q p;
  ab_left = h.ab_right;
  ab_right = h.ab_left;
}

sides_agree : (a b c d : Point) → shoelace a b c + shoelace b a d + shoelace d c b + shoelace c d a ≡ shoelace b a c + shoelace a b d
    + shoelace c d b + shoelace d c a
sides_agree a b c d = omega arith

c_off_left : (a b c d : Point) → Astride a b c d → shoelace b a c < shoelace a b c → SharedPoint a b c d
c_off_left a b c d h l =
    let o = ordered (shoelace a b c) (shoelace b a c) (shoelace a b d) (shoelace b a d) (shoelace c d a) (shoelace d c a) (shoelace c d b)
    (shoelace d c b) (sides_agree a b c d) l (h.cd_left l) h.ab_left h.ab_right in
    weighed a b c d (shoelace a b c - shoelace b a c) (shoelace b a d - shoelace a b d) (shoelace c d b - shoelace d c b)
    (shoelace d c a - shoelace c d a)
    (record {
      c_left = filled (shoelace b a c) (shoelace a b c) (omega arith);
      d_right = filled (shoelace a b d) (shoelace b a d) o.0;
      b-left = filled (shoelace d c b) (shoelace c d b) o.1;
      a-right = filled (shoelace c d a) (shoelace d c a) o.2;
    })
    o.3
  where
    ordered : (P P' Q Q' R R' S S' : ℕ) → P + Q' + S' + R ≡ P' + Q + S + R' → P' < P → (Q' < Q → ⊥) → (R' < R → S' < S → ⊥)
        → (R < R' → S < S' → ⊥)
        → (Q ≤ Q') × (S' ≤ S) × (R ≤ R') × (0 < S - S' + (R' - R))
    ordered P P' Q Q' R R' S S' e l n k m =
        let y : ¬ (S < S') = λ (x : S < S'). m (omega arith) x in
        let z : ¬ (R' < R) = λ (x : R' < R). k x (omega arith) in
        (omega arith, omega arith, omega arith, omega arith)

    filled : (x y : ℕ) → x ≤ y → x + (y - x) ≡ y
    filled x y l = omega arith

-- ---- all four on one line, and boxes that are not apart

record Aligned (a b c d : Point) : Type 0 where
  c_on : shoelace a b c ≡ shoelace b a c
  d_on : shoelace a b d ≡ shoelace b a d
  a-on : shoelace c d a ≡ shoelace d c a
  b-on : shoelace c d b ≡ shoelace d c b
  x_reached : min c.x d.x ≤ max a.x b.x
  x_reaches : min a.x b.x ≤ max c.x d.x
  y_reached : min c.y d.y ≤ max a.y b.y
  y_reaches : min a.y b.y ≤ max c.y d.y

aligned_other_way : {a b c d : Point} → Aligned a b c d → Aligned b a c d
aligned_other_way h = record {
  c_on = sym h.c_on;
  d_on = sym h.d_on;
  a-on = h.b-on;
  b-on = h.a-on;
  x_reached = omega (arith, h.x_reached);
  x_reaches = omega (arith, h.x_reaches);
  y_reached = omega (arith, h.y_reached);
  y_reaches = omega (arith, h.y_reaches);
}

aligned_other_first : {a b c d : Point} → Aligned a b c d → Aligned c d a b
aligned_other_first h = record {
  c_on = h.a-on;
  d_on = h.b-on;
  a-on = h.c_on;
  b-on = h.d_on;
  x_reached = h.x_reaches;
  x_reaches = h.x_reached;
  y_reached = h.y_reaches;
  y_reaches = h.y_reached;
}

aligned_mirrored : {a b c d : Point} → Aligned a b c d → Aligned (mirrored a) (mirrored b) (mirrored c) (mirrored d)
aligned_mirrored {a} {b} {c} {d} h = record {
  c_on = on a b c h.c_on;
  d_on = on a b d h.d_on;
  a-on = on c d a h.a-on;
  b-on = on c d b h.b-on;
  x_reached = h.y_reached;
  x_reaches = h.y_reaches;
  y_reached = h.x_reached;
  y_reaches = h.x_reaches;
}
  where
    on : (p q z : Point) → shoelace p q z ≡ shoelace q p z → shoelace (mirrored p) (mirrored q) (mirrored z) ≡ shoelace (mirrored q)
        (mirrored p) (mirrored z)
    on p q z e = omega (arith, e)

-- c is on the line, and between the ends in x
on_segment : (a b c d : Point) → shoelace a b c ≡ shoelace b a c → a.x ≤ c.x → c.x ≤ b.x → a.x < b.x → SharedPoint a b c d
on_segment a b c d e l h k =
    let r = b.x - c.x in
    let s = c.x - a.x in
    let er : c.x + r ≡ b.x = omega arith in
    let es : a.x + s ≡ c.x = omega arith in
    record {
      r = r;
      s = s;
      u = r + s;
      t = 0;
      some = omega arith;
      same_weight = omega arith;
      same_x = weigh r s er es;
      same_y = weigh_y r s er es;
    }
  where
    weigh : (r s : ℕ) → c.x + r ≡ b.x → a.x + s ≡ c.x → r * a.x + s * b.x ≡ (r + s) * c.x + 0 * d.x
    weigh r s er es = omega (
      arith,
      ap (λ (v : ℕ). v * a.x) er,
      ap (λ (v : ℕ). v * b.x) es,
      ap (λ (v : ℕ). v * c.x) er,
      ap
          (λ (v : ℕ). v * c.x) es,
    )

    weigh_y : (r s : ℕ) → c.x + r ≡ b.x → a.x + s ≡ c.x → r * a.y + s * b.y ≡ (r + s) * c.y + 0 * d.y
    weigh_y r s er es = omega (
      arith,
      e,
      ap (λ (v : ℕ). v * a.y) er,
      ap (λ (v : ℕ). v * b.y) es,
      ap (λ (v : ℕ). v * c.y) er,
      ap
          (λ (v : ℕ). v * c.y) es,
    )

-- from west to east
rising : (a b c d : Point) → Aligned a b c d → a.x < b.x → SharedPoint a b c d
rising a b c d h l =
    elim (dec_lt c.x a.x) [
      | yes ca ↦ elim (dec_lt d.x a.x) [
        | yes da ↦ absurd (omega (arith, h.x_reaches))
        | no nd ↦ elim (dec_lt b.x d.x) [
          | yes bd ↦ other_first (on_segment c d a b h.a-on (omega arith) (omega arith) (omega arith))
          | no nb ↦ second_way (on_segment a b d c h.d_on (omega arith) (omega arith) l)
        ]
      ]
      | no nc ↦ elim (dec_lt b.x c.x) [
        | yes bc ↦ elim (dec_lt b.x d.x) [
          | yes bd ↦ absurd (omega (arith, h.x_reached))
          | no nb ↦ elim (dec_lt d.x a.x) [
            | yes da ↦ other_first (other_way (on_segment d c a b (sym h.a-on) (omega arith) (omega arith) (omega arith)))
            | no nd ↦ second_way (on_segment a b d c h.d_on (omega arith) (omega arith) l)
          ]
        ]
        | no nb ↦ on_segment a b c d h.c_on (omega arith) (omega arith) l
      ]
    ]

sloping : (a b c d : Point) → Aligned a b c d → (a.x ≡ b.x → ⊥) → SharedPoint a b c d
sloping a b c d h n = elim (dec_lt a.x b.x) [
  | yes l ↦ rising a b c d h l
  | no m ↦ other_way (rising b a c d (aligned_other_way h) (omega (arith, n)))
]

-- one of the two spans some of x, or both lie upright
either_slopes : (a b c d : Point) → Aligned a b c d → SharedPoint a b c d ⊎ ((a.x ≡ b.x) × (c.x ≡ d.x))
either_slopes a b c d h = elim (ℕ_discrete a.x b.x) [
  | no n ↦ inl (sloping a b c d h n)
  | yes e ↦ elim (ℕ_discrete c.x d.x) [
    | no n ↦ inl (other_first (sloping c d a b (aligned_other_first h) n))
    | yes f ↦ inr (e, f)
  ]
]

all_aligned : (a b c d : Point) → Aligned a b c d → SharedPoint a b c d
all_aligned a b c d h =
    ⊎_elim (λ z. z)
    (λ (e : (a.x ≡ b.x) × (c.x ≡ d.x)).
    ⊎_elim (λ z. unmirrored z)
    (λ (f : (a.y ≡ b.y) × (c.y ≡ d.y)). record {
      r = 1;
      s = 0;
      u = 1;
      t = 0;
      some = omega arith;
      same_weight = refl;
      same_x = omega (arith, h.x_reached, h.x_reaches);
      same_y = omega (arith, h.y_reached, h.y_reaches);
    })
    (either_slopes (mirrored a) (mirrored b) (mirrored c) (mirrored d) (aligned_mirrored h)))
    (either_slopes a b c d h)

-- ---- segments astride each other whose boxes are not apart

level : (R R' S S' : ℕ) → S' + R ≡ S + R' → (R' < R → S' < S → ⊥) → (R < R' → S < S' → ⊥) → (R ≡ R') × (S ≡ S')
level R R' S S' e k m =
    let y : ¬ (R' < R) = λ (x : R' < R). k x (omega arith) in
    let z : ¬ (R < R') = λ (x : R < R'). m x (omega arith) in
    (omega arith, omega arith)

meet : (a b c d : Point) → Astride a b c d → min c.x d.x ≤ max a.x b.x → min a.x b.x ≤ max c.x d.x
    → min c.y d.y ≤ max a.y b.y → min a.y b.y ≤ max c.y d.y
    → SharedPoint a b c d
meet a b c d h xl xr yl yr = elim (dec_lt (shoelace b a c) (shoelace a b c)) [
  | yes l ↦ c_off_left a b c d h l
  | no n ↦ elim (dec_lt (shoelace a b c) (shoelace b a c)) [
    | yes l ↦ other_way (c_off_left b a c d (astride_other_way h) l)
    | no m ↦ elim (dec_lt (shoelace b a d) (shoelace a b d)) [
      | yes l ↦ second_way (c_off_left a b d c (astride_second_way h) l)
      | no o ↦ elim (dec_lt (shoelace a b d) (shoelace b a d)) [
        | yes l ↦ second_way (other_way (c_off_left b a d c (astride_other_way (astride_second_way h)) l))
        | no p ↦
            let ce = same (shoelace a b c) (shoelace b a c) n m in
            let de = same (shoelace a b d) (shoelace b a d) o p in
            let f = level (shoelace c d a) (shoelace d c a) (shoelace c d b) (shoelace d c b)
            (rest (shoelace a b c) (shoelace b a c) (shoelace a b d) (shoelace b a d) (shoelace c d a) (shoelace d c a) (shoelace c d b)
            (shoelace d c b) (sides_agree a b c d) ce de) h.ab_left h.ab_right in
            all_aligned a b c d (record {
              c_on = ce;
              d_on = de;
              a-on = f.0;
              b-on = f.1;
              x_reached = xl;
              x_reaches = xr;
              y_reached = yl;
              y_reaches = yr;
            })
      ]
    ]
  ]
]
  where
    same : (x y : ℕ) → ¬ (y < x) → ¬ (x < y) → x ≡ y
    same x y n m = omega arith

    rest : (P P' Q Q' R R' S S' : ℕ) → P + Q' + S' + R ≡ P' + Q + S + R' → P ≡ P' → Q ≡ Q' → S' + R ≡ S + R'
    rest P P' Q Q' R R' S S' e p q = omega arith

-- ---- the test says what is meant

not-both : (x y x' y' : ℕ) → ltb x y && ltb x' y' ≡ false → x < y → x' < y' → ⊥
not-both x y x' y' e l m = never_both (rw (lt-ltb x y l, lt-ltb x' y' m)) e

shared_where-true : (a b c d : Point) → shares_point a b c d ≡ true → SharedPoint a b c d
unfolding shares_point one_side both_left is_left boxes_apart ranges_apart
shared_where-true a b c d h =
    let k = both (not (boxes_apart a b c d)) (not (one_side a b c d || one_side c d a b)) h in
    let boxes = neither (ranges_apart a.x b.x c.x d.x) (ranges_apart a.y b.y c.y d.y)
    (not-true (boxes_apart a b c d) k.0) in
    let x = neither (ltb (max a.x b.x) (min c.x d.x)) (ltb (max c.x d.x) (min a.x b.x)) boxes.0 in
    let y = neither (ltb (max a.y b.y) (min c.y d.y)) (ltb (max c.y d.y) (min a.y b.y)) boxes.1 in
    let sides = neither (one_side a b c d) (one_side c d a b) (not-true (one_side a b c d || one_side c d a b) k.1) in
    let cd = neither (both_left a b c d) (both_left b a c d) sides.0 in
    let ab = neither (both_left c d a b) (both_left d c a b) sides.1 in
    meet a b c d
    (record {
      cd_left = not-both (shoelace b a c) (shoelace a b c) (shoelace b a d) (shoelace a b d) cd.0;
      cd_right = not-both (shoelace a b c) (shoelace b a c) (shoelace a b d) (shoelace b a d) cd.1;
      ab_left = not-both (shoelace d c a) (shoelace c d a) (shoelace d c b) (shoelace c d b) ab.0;
      ab_right = not-both (shoelace c d a) (shoelace d c a) (shoelace c d b) (shoelace d c b) ab.1;
    })
    (ltb-false (max a.x b.x) (min c.x d.x) x.0) (ltb-false (max c.x d.x) (min a.x b.x) x.1)
    (ltb-false (max a.y b.y) (min c.y d.y) y.0) (ltb-false (max c.y d.y) (min a.y b.y) y.1)

not-apart-on : (a b c d r s u t : ℕ) → 0 < r + s → r + s ≡ u + t → r * a + s * b ≡ u * c + t * d → ranges_apart a b c d ≡ false
unfolding ranges_apart
not-apart-on a b c d r s u t k w e =
    rw (one a b c d r s u t k w e, one c d a b u t r s (omega arith) (sym w) (sym e))
  where
    one : (a b c d r s u t : ℕ) → 0 < r + s → r + s ≡ u + t → r * a + s * b ≡ u * c + t * d → ltb (max a b) (min c d) ≡ false
    one a b c d r s u t k w e = eq-false_of_not-eq-true
        (λ (q : ltb (max a b) (min c d) ≡ true). not-below a b c d r s u t k w e (ltb-true (max a b) (min c d) q))

not-apart : (a b c d : Point) → SharedPoint a b c d → boxes_apart a b c d ≡ false
unfolding boxes_apart
not-apart a b c d z =
    rw (not-apart-on a.x b.x c.x d.x z.r z.s z.u z.t z.some z.same_weight z.same_x)
    (not-apart-on a.y b.y c.y d.y z.r z.s z.u z.t z.some z.same_weight z.same_y)

not-both-left : (a b c d : Point) → SharedPoint a b c d → both_left a b c d ≡ false
unfolding both_left is_left
not-both-left a b c d z =
    eq-false_of_not-eq-true (λ (q : both_left a b c d ≡ true).
    let p = both (is_left a b c) (is_left a b d) q in
    not_left a b c d z (ltb-true (shoelace b a c) (shoelace a b c) p.0) (ltb-true (shoelace b a d) (shoelace a b d) p.1))

not-one_side : (a b c d : Point) → SharedPoint a b c d → one_side a b c d ≡ false
unfolding one_side
not-one_side a b c d z = rw (not-both-left a b c d z) (not-both-left b a c d (other_way z))

true-where_shared : (a b c d : Point) → SharedPoint a b c d → shares_point a b c d ≡ true
unfolding shares_point
true-where_shared a b c d z = rw (not-apart a b c d z, not-one_side a b c d z, not-one_side c d a b (other_first z))

pub shares_decided : (a b c d : Point) → Decides (shares_point a b c d) (SharedPoint a b c d)
shares_decided a b c d = (λ h. shared_where-true a b c d h, λ z. true-where_shared a b c d z)

-- ---- so it is the same whichever segment comes first, and whichever way each is gone

same_verdict : (a b c d a' b' c' d' : Point) → (SharedPoint a b c d → SharedPoint a' b' c' d')
    → (SharedPoint a' b' c' d' → SharedPoint a b c d) → shares_point a b c d ≡ shares_point a' b' c' d'
same_verdict a b c d a' b' c' d' f g = go (shares_point a b c d) refl
  where
    go : (v : Bool) → shares_point a b c d ≡ v → shares_point a b c d ≡ shares_point a' b' c' d'
    go true e = e ∙ sym (true-where_shared a' b' c' d' (f (shared_where-true a b c d e)))
    go false e = e ∙ sym (eq-false_of_not-eq-true (λ (q : shares_point a' b' c' d' ≡ true). never_both
        (true-where_shared a b c d (g (shared_where-true a' b' c' d' q))) e))

pub shares_other_first : (a b c d : Point) → shares_point a b c d ≡ shares_point c d a b
shares_other_first a b c d = same_verdict a b c d c d a b (λ z. other_first z) (λ z. other_first z)

pub shares_other_way : (a b c d : Point) → shares_point a b c d ≡ shares_point b a c d
shares_other_way a b c d = same_verdict a b c d b a c d (λ z. other_way z) (λ z. other_way z)
