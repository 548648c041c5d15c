-- The invariant of the search, over its tables as functions: what a try and a settled position do to it.
use Prim.Native.Nat.{ℕ, suc, ◌+◌, ◌≤◌, ◌<◌}
use mathlib.Core.Path.{◌≡◌, refl, sym, ap, ◌∙◌}
use mathlib.Core.Logic.{◌≢◌}
use mathlib.Core.Bool.{true}
use native.Mathlib.Omega.{arith}
use Rattle.protocol_types.proofs.Laws.{Same, same, apart, same?, Under, under, over, under?}
use Rattle.best_search.specs.Search.{Graph, size, layer}

-- entry k of position u was passed: u is settled, or k lies before the next entry of the current position
pub data Passed (O : ℕ → ℕ) (cur code u k : ℕ) : Type 0 where
  before : 1 ≤ O u → Passed O cur code u k
  now : u ≡ cur → k < code → Passed O cur code u k

-- u was settled before v, or is current and v is open
pub data Above (O : ℕ → ℕ) (cur u v : ℕ) : Type 0 where
  settled : 1 ≤ O u → (1 ≤ O v → O u < O v) → Above O cur u v
  current : u ≡ cur → v ≢ cur → O v ≡ 0 → Above O cur u v

-- position v was reached from u by entry k
pub record Parent (g : Graph) (D O : ℕ → ℕ) (cur u k v : ℕ) : Type 0 where
  pub code_lt : k < g.codes
  pub allowed : g.legal u k ≡ true
  pub leads : g.next u k ≡ v
  pub adds : D v ≡ D u + g.price u k
  pub known : 1 ≤ D u
  pub above : Above O cur u v

-- u comes before v: its layer does, or it is no dearer in the same layer
pub data Lower (g : Graph) (D : ℕ → ℕ) (u v : ℕ) : Type 0 where
  earlier : layer g u < layer g v → Lower g D u v
  level : layer g u ≡ layer g v → D u ≤ D v → Lower g D u v

-- what comes before cur comes before what lies no earlier and is no cheaper
pub lower-on : (g : Graph) (D D' : ℕ → ℕ) (u cur v : ℕ) → layer g cur ≤ layer g v → D cur ≤ D' v → D' u ≡ D u → Lower g D u cur → Lower g D' u v
lower-on g D D' u cur v h l e (earlier a) = earlier (omega arith)
lower-on g D D' u cur v h l e (level a b) = go (same? (layer g cur) (layer g v))
  where
    go : Same (layer g cur) (layer g v) → Lower g D' u v
    go (same p q) = level (omega arith) (omega arith)
    go (apart p q) = earlier (omega arith)

pub lower-same : (g : Graph) (D D' : ℕ → ℕ) (u v : ℕ) → D' u ≡ D u → D' v ≡ D v → Lower g D u v → Lower g D' u v
lower-same g D D' u v e f (earlier a) = earlier a
lower-same g D D' u v e f (level a b) = level a (omega arith)

-- D: 0 or 1 + cost; O: 0 or the order of settling; F and B: by which position and entry
pub record Core (g : Graph) (D O F B : ℕ → ℕ) (cur code count limit : ℕ) : Type 0 where
  pub start : D 0 ≡ 1
  pub met : (u : ℕ) → 1 ≤ O u → 1 ≤ D u
  pub low : (u v : ℕ) → 1 ≤ O u → 1 ≤ D v → O v ≡ 0 → D v ≤ limit → Lower g D u v
  pub cur-met : cur < size g → 1 ≤ D cur
  pub cur-open : O cur ≡ 0
  pub cur-low : cur < size g → (u : ℕ) → 1 ≤ O u → Lower g D u cur
  pub cur-least : cur < size g → (v : ℕ) → 1 ≤ D v → O v ≡ 0 → D v ≤ limit → Lower g D cur v
  pub relaxed : (u k : ℕ) → k < g.codes → g.legal u k ≡ true → Passed O cur code u k → (1 ≤ D (g.next u k)) × (D (g.next u k) ≤ D u + g.price u k)
  pub parent : (v : ℕ) → 1 ≤ D v → v ≢ 0 → Parent g D O cur (F v) (B v) v
  pub few : (u : ℕ) → O u ≤ count

-- ---- the distance of w falls to n

-- only that of a position that is not settled does
pub falls-open : (g : Graph) (D O F B : ℕ → ℕ) (cur code count limit : ℕ) → Core g D O F B cur code count limit → (w n : ℕ) → cur < size g → layer g cur ≤ layer g w → D cur ≤ n
    → (1 ≤ D w → n < D w) → O w ≡ 0
falls-open g D O F B cur code count limit c w n l later above falls = go (under? 0 (O w))
  where
    no : 1 ≤ O w → Lower g D w cur → ⊥
    no h (earlier a) = omega arith
    no h (level a b) = omega (arith, falls (c.met w h))

    go : Under 0 (O w) → O w ≡ 0
    go (under h p) = absurd (no h (c.cur-low l w h))
    go (over h p) = omega arith

module _ (g : Graph) (D O F B : ℕ → ℕ) (cur code count limit : ℕ) (c : Core g D O F B cur code count limit) (w n : ℕ) (D' F' B' : ℕ → ℕ)
    (l : cur < size g) (lc : code < g.codes) (al : g.legal cur code ≡ true) (to : g.next cur code ≡ w) (later : layer g cur ≤ layer g w) (is : n ≡ D cur + g.price cur code) (falls : 1 ≤ D w → n < D w)
    (Dw : D' w ≡ n) (Fw : F' w ≡ cur) (Bw : B' w ≡ code)
    (Dv : (v : ℕ) → v ≢ w → D' v ≡ D v) (Fv : (v : ℕ) → v ≢ w → F' v ≡ F v) (Bv : (v : ℕ) → v ≢ w → B' v ≡ B v) where
  w-open : O w ≡ 0
  w-open = falls-open g D O F B cur code count limit c w n l later (omega arith) falls

  w-not-cur : w ≢ cur
  w-not-cur p = let e : D w ≡ D cur = ap D p in omega (arith, c.cur-met l, falls (omega (arith, c.cur-met l)))

  -- what is settled keeps its distance
  settled-stays : (u : ℕ) → 1 ≤ O u → u ≢ w
  settled-stays u h p = let e : O u ≡ O w = ap O p in omega (arith, w-open)

  lowers : (v : ℕ) → 1 ≤ D v → (1 ≤ D' v) × (D' v ≤ D v)
  lowers v h = go (same? v w)
    where
      go : Same v w → (1 ≤ D' v) × (D' v ≤ D v)
      go (same p q) = let e : D v ≡ D w = ap D p in let e' : D' v ≡ D' w = ap D' p in (omega (arith, c.cur-met l), omega (arith, falls (omega arith)))
      go (apart p q) = (omega (arith, Dv v p), omega (arith, Dv v p))

  passed-stays : (u k : ℕ) → Passed O cur code u k → D' u ≡ D u
  passed-stays u k (before h) = Dv u (settled-stays u h)
  passed-stays u k (now p h) = Dv u (λ e. w-not-cur (sym e ∙ p))

  above-stays : (u v : ℕ) → Above O cur u v → D' u ≡ D u
  above-stays u v (settled h f) = Dv u (settled-stays u h)
  above-stays u v (current p d e) = Dv u (λ q. w-not-cur (sym q ∙ p))

  zero-not-w : 0 ≢ w
  zero-not-w p = let e : D 0 ≡ D w = ap D p in omega (arith, c.start, c.cur-met l, falls (omega (arith, c.start)))

  new-parent : Parent g D' O cur cur code w
  new-parent =
      record {
        code_lt = lc;
        allowed = al;
        leads = to;
        adds = omega (arith, Dv cur (λ e. w-not-cur (sym e)));
        known = omega (arith, Dv cur (λ e. w-not-cur (sym e)), c.cur-met l);
        above = current refl w-not-cur w-open;
      }

  old-parent : (v u k : ℕ) → v ≢ w → Parent g D O cur u k v → Parent g D' O cur u k v
  old-parent v u k d p =
      record {
        code_lt = p.code_lt;
        allowed = p.allowed;
        leads = p.leads;
        adds = omega (arith, Dv v d, above-stays u v p.above, p.adds);
        known = omega (arith, above-stays u v p.above, p.known);
        above = p.above;
      }

  lower-parent : (v : ℕ) → 1 ≤ D' v → v ≢ 0 → Same v w → Parent g D' O cur (F' v) (B' v) v
  lower-parent v h d (same p q) = rw (p, Fw, Bw) new-parent
  lower-parent v h d (apart p q) = rw (Fv v p, Bv v p) (old-parent v (F v) (B v) p (c.parent v (omega (arith, Dv v p)) d))

  lower-low : (u v : ℕ) → D' u ≡ D u → Lower g D u cur → (O v ≡ 0 → 1 ≤ D v → D v ≤ limit → Lower g D u v) → 1 ≤ D' v → O v ≡ 0 → D' v ≤ limit → Same v w → Lower g D' u v
  lower-low u v e h f m o y (same p q) = let e' : D' v ≡ D' w = ap D' p in let e'' : layer g v ≡ layer g w = ap (layer g) p in lower-on g D D' u cur v (omega arith) (omega arith) e h
  lower-low u v e h f m o y (apart p q) = lower-same g D D' u v e (Dv v p) (f o (omega (arith, Dv v p)) (omega (arith, Dv v p)))

  pub lower : Core g D' O F' B' cur code count limit
  lower =
      record {
        start = Dv 0 zero-not-w ∙ c.start;
        met = λ u h. omega (arith, Dv u (settled-stays u h), c.met u h);
        low = λ u v h m o y. lower-low u v (Dv u (settled-stays u h)) (c.cur-low l u h) (λ o' m' y'. c.low u v h m' o' y') m o y (same? v w);
        cur-met = λ h. omega (arith, Dv cur (λ e. w-not-cur (sym e)), c.cur-met l);
        cur-open = c.cur-open;
        cur-low = λ h u o. lower-same g D D' u cur (Dv u (settled-stays u o)) (Dv cur (λ e. w-not-cur (sym e))) (c.cur-low l u o);
        cur-least = λ h v m o y. lower-low cur v (Dv cur (λ e. w-not-cur (sym e))) (level refl (omega arith)) (λ o' m' y'. c.cur-least l v m' o' y') m o y (same? v w);
        relaxed = λ u k lk a p. go u k (c.relaxed u k lk a p) (passed-stays u k p);
        parent = λ v h d. lower-parent v h d (same? v w);
        few = c.few;
      }
    where
      go : (u k : ℕ) → (1 ≤ D (g.next u k)) × (D (g.next u k) ≤ D u + g.price u k) → D' u ≡ D u → (1 ≤ D' (g.next u k)) × (D' (g.next u k) ≤ D' u + g.price u k)
      go u k h e = ((lowers (g.next u k) h.0).0, omega (arith, h.1, (lowers (g.next u k) h.0).1))

  -- and the entry that did it is passed
  pub lower-fits : (1 ≤ D' (g.next cur code)) × (D' (g.next cur code) ≤ D' cur + g.price cur code)
  lower-fits = rw to (omega (arith, c.cur-met l), omega (arith, Dv cur (λ e. w-not-cur (sym e))))

-- ---- past the current entry

pub pass : (g : Graph) (D O F B : ℕ → ℕ) (cur code count limit : ℕ) → Core g D O F B cur code count limit
    → (g.legal cur code ≡ true → (1 ≤ D (g.next cur code)) × (D (g.next cur code) ≤ D cur + g.price cur code)) → Core g D O F B cur (suc code) count limit
pass g D O F B cur code count limit c f =
    record {
      start = c.start;
      met = c.met;
      low = c.low;
      cur-met = c.cur-met;
      cur-open = c.cur-open;
      cur-low = c.cur-low;
      cur-least = c.cur-least;
      relaxed = go;
      parent = c.parent;
      few = c.few;
    }
  where
    now-fits : (u k : ℕ) → k < g.codes → g.legal u k ≡ true → u ≡ cur → k < suc code → Same k code → (1 ≤ D (g.next u k)) × (D (g.next u k) ≤ D u + g.price u k)
    now-fits u k lk a p h (same e q) = rw (p, e) (f (rw (p, e) at a))
    now-fits u k lk a p h (apart d q) = c.relaxed u k lk a (now p (omega arith))

    go : (u k : ℕ) → k < g.codes → g.legal u k ≡ true → Passed O cur (suc code) u k → (1 ≤ D (g.next u k)) × (D (g.next u k) ≤ D u + g.price u k)
    go u k lk a (before h) = c.relaxed u k lk a (before h)
    go u k lk a (now p h) = now-fits u k lk a p h (same? k code)

-- ---- the current position is settled, and p is next

module _ (g : Graph) (D O F B : ℕ → ℕ) (cur code count limit : ℕ) (c : Core g D O F B cur code count limit) (O' : ℕ → ℕ) (p : ℕ)
    (l : cur < size g) (all-passed : g.codes ≤ code)
    (Oc : O' cur ≡ suc count) (Ov : (v : ℕ) → v ≢ cur → O' v ≡ O v)
    (p-open : O' p ≡ 0) (p-met : p < size g → 1 ≤ D p) (p-near : p < size g → D p ≤ limit)
    (p-least : p < size g → (v : ℕ) → 1 ≤ D v → O' v ≡ 0 → D v ≤ limit → Lower g D p v) where
  open-before : (v : ℕ) → O' v ≡ 0 → (v ≢ cur) × (O v ≡ 0)
  open-before v o = go (same? v cur)
    where
      go : Same v cur → (v ≢ cur) × (O v ≡ 0)
      go (same e q) = let e' : O' v ≡ O' cur = ap O' e in absurd (omega arith)
      go (apart d q) = (d, omega (arith, Ov v d))

  settle-above : (u v : ℕ) → Above O cur u v → Same u cur → Same v cur → Above O' p u v
  settle-above u v (settled h f) (same e q) s = let e' : O u ≡ O cur = ap O e in absurd (omega (arith, c.cur-open))
  settle-above u v (settled h f) (apart d q) (same e r) = let e' : O' v ≡ O' cur = ap O' e in settled (omega (arith, Ov u d)) (λ m. omega (arith, Ov u d, c.few u))
  settle-above u v (settled h f) (apart d q) (apart d' r) = settled (omega (arith, Ov u d)) (λ m. omega (arith, Ov u d, Ov v d', f (omega (arith, Ov v d'))))
  settle-above u v (current e d o) s (same e' r) = absurd (d e')
  settle-above u v (current e d o) s (apart d' r) = let e' : O' u ≡ O' cur = ap O' e in settled (omega arith) (λ m. absurd (omega (arith, Ov v d)))

  pub settle : Core g D O' F B p 0 (suc count) limit
  settle =
      record {
        start = c.start;
        met = λ u h. settle-met u h (same? u cur);
        low = λ u v h m o y. settle-low u v h m (open-before v o).1 y (same? u cur);
        cur-met = p-met;
        cur-open = p-open;
        cur-low = λ h u o. settle-low u p o (p-met h) (open-before p p-open).1 (p-near h) (same? u cur);
        cur-least = p-least;
        relaxed = λ u k lk a q. settle-relaxed u k lk a q (same? u cur);
        parent = λ v h d. again v (c.parent v h d);
        few = λ u. settle-few u (same? u cur);
      }
    where
      settle-met : (u : ℕ) → 1 ≤ O' u → Same u cur → 1 ≤ D u
      settle-met u h (same e q) = rw e (c.cur-met l)
      settle-met u h (apart d q) = c.met u (omega (arith, Ov u d))

      settle-low : (u v : ℕ) → 1 ≤ O' u → 1 ≤ D v → O v ≡ 0 → D v ≤ limit → Same u cur → Lower g D u v
      settle-low u v h m o y (same e q) = rw e (c.cur-least l v m o y)
      settle-low u v h m o y (apart d q) = c.low u v (omega (arith, Ov u d)) m o y

      settle-relaxed : (u k : ℕ) → k < g.codes → g.legal u k ≡ true → Passed O' p 0 u k → Same u cur → (1 ≤ D (g.next u k)) × (D (g.next u k) ≤ D u + g.price u k)
      settle-relaxed u k lk a q (same e r) = c.relaxed u k lk a (now e (omega arith))
      settle-relaxed u k lk a (before h) (apart d r) = c.relaxed u k lk a (before (omega (arith, Ov u d)))
      settle-relaxed u k lk a (now e h) (apart d r) = absurd (omega arith)

      again : (v : ℕ) → Parent g D O cur (F v) (B v) v → Parent g D O' p (F v) (B v) v
      again v q =
          record { code_lt = q.code_lt; allowed = q.allowed; leads = q.leads; adds = q.adds; known = q.known; above = settle-above (F v) v q.above (same? (F v) cur) (same? v cur) }

      settle-few : (u : ℕ) → Same u cur → O' u ≤ suc count
      settle-few u (same e q) = let e' : O' u ≡ O' cur = ap O' e in omega arith
      settle-few u (apart d q) = omega (arith, Ov u d, c.few u)

-- ---- the limit falls

pub tighten : (g : Graph) (D O F B : ℕ → ℕ) (cur code count limit limit' : ℕ) → limit' ≤ limit → Core g D O F B cur code count limit → Core g D O F B cur code count limit'
tighten g D O F B cur code count limit limit' h c =
    record {
      start = c.start;
      met = c.met;
      low = λ u v p m o y. c.low u v p m o (omega arith);
      cur-met = c.cur-met;
      cur-open = c.cur-open;
      cur-low = c.cur-low;
      cur-least = λ l v m o y. c.cur-least l v m o (omega arith);
      relaxed = c.relaxed;
      parent = c.parent;
      few = c.few;
    }
