-- A search, layer by layer, for the cheapest way from position 0 to a final position, one entry tried at a time.
use Rattle.std.specs.Prelude.{ℕ, zero, suc, ◌+◌, ◌-◌, ◌*◌, ◌/◌, ◌%◌, ◌≤◌, ◌<◌, ◌≡◌, ◌≢◌, Bool, true, false, ◌&&◌, cond, List, [], ◌∷◌, set, replicate, length, leb, ltb, eqb}
use Rattle.protocol_types.specs.Lists.{at}

-- positions 0 .. size - 1 in layers of this width, and at each the entries 0 .. codes - 1
pub record Graph : Type 0 where
  pub layers : ℕ
  pub width : ℕ
  pub codes : ℕ
  pub legal : ℕ → ℕ → Bool
  pub next : ℕ → ℕ → ℕ
  pub price : ℕ → ℕ → ℕ
  pub final : ℕ → Bool

unfoldable pub size : Graph → ℕ
size g = g.layers * g.width

-- the layer of a position
unfoldable pub layer : Graph → ℕ → ℕ
layer g u = u / g.width

-- ---- paths

abbrev pub walk : Graph → ℕ → List ℕ → ℕ
walk g u [] = u
walk g u (k ∷ ks) = walk g (g.next u k) ks

abbrev pub Lawful : Graph → ℕ → List ℕ → Type 0
Lawful g u [] = Unit {0}
Lawful g u (k ∷ ks) = (k < g.codes) × (g.legal u k ≡ true) × Lawful g (g.next u k) ks

abbrev pub total : Graph → ℕ → List ℕ → ℕ
total g u [] = 0
total g u (k ∷ ks) = g.price u k + total g (g.next u k) ks

-- ---- the search

-- entry `code` was tried at `position`
pub record Tried : Type 0 where
  pub position : ℕ
  pub code : ℕ

pub record State : Type 0 where
  -- 0: not reached; 1 + the least cost found
  pub dist : List ℕ
  -- 0: not settled; n: settled as the n-th
  pub order : List ℕ
  -- codes × the position, plus the entry there, by which it was reached
  pub via : List ℕ
  -- the position whose entries are being tried, and the next of them; the size if the search is over
  pub current : ℕ
  pub code : ℕ
  -- positions settled
  pub settled : ℕ
  -- the least cost of a final position, and which; the size while none is cheaper than what was there before
  pub limit : ℕ
  pub goal : ℕ
  -- what was tried, the last first
  pub tries : List Tried

unfoldable pub initial : Graph → ℕ → State
initial g own = record {
  dist = set (replicate (size g) 0) 0 1;
  order = replicate (size g) 0;
  via = replicate (size g) 0;
  current = 0;
  code = 0;
  settled = 0;
  limit = own;
  goal = size g;
  tries = [];
}

-- reached, not settled, and cheaper than the limit
unfoldable pub open? : List ℕ → List ℕ → ℕ → ℕ → Bool
open? dist order limit v = ltb 0 (at dist v) && eqb (at order v) 0 && leb (at dist v) limit

-- of p and v, the cheaper open one; p is open, or none where it is the end
unfoldable pub cheaper : ℕ → List ℕ → List ℕ → ℕ → ℕ → ℕ → ℕ
cheaper end dist order limit p v =
    cond (open? dist order limit v) (cond (ltb p end) (cond (ltb (at dist v) (at dist p)) v p) v) p

-- the first of the cheapest open positions among the n from v on; the end if there is none
unfoldable pub cheapest : ℕ → List ℕ → List ℕ → ℕ → ℕ → ℕ → ℕ
cheapest end dist order limit v zero = end
cheapest end dist order limit v (suc n) = cheaper end dist order limit (cheapest end dist order limit v n) (v + n)

-- the same in the first layer that has an open position, among the n from layer l on
unfoldable pub upcoming : ℕ → ℕ → List ℕ → List ℕ → ℕ → ℕ → ℕ → ℕ
upcoming end width dist order limit zero l = end
upcoming end width dist order limit (suc n) l =
    cond (ltb (cheapest end dist order limit (l * width) width) end) (cheapest end dist order limit (l * width) width) (upcoming end width dist order limit n (suc l))

-- the current position is settled
unfoldable pub closed : State → State
closed t = record {
  dist = t.dist;
  order = set t.order t.current (suc t.settled);
  via = t.via;
  current = t.current;
  code = t.code;
  settled = suc t.settled;
  limit = t.limit;
  goal = t.goal;
  tries = t.tries;
}

unfoldable pub moved : State → ℕ → State
moved t p = record { dist = t.dist; order = t.order; via = t.via; current = p; code = 0; settled = t.settled; limit = t.limit; goal = t.goal; tries = t.tries }

-- the next position: the cheapest open one of this layer, or of the first one after it that has any
unfoldable pub onward : Graph → State → State
onward g t =
    moved t (upcoming (size g) g.width t.dist t.order t.limit (g.layers - layer g t.current) (layer g t.current))

-- position w is reached from the current one, at 1 + cost n
unfoldable pub lowered : Graph → State → ℕ → ℕ → State
lowered g t w n =
    let better : Bool = g.final w && leb n t.limit in
    record {
      dist = set t.dist w n;
      order = t.order;
      via = set t.via w (g.codes * t.current + t.code);
      current = t.current;
      code = t.code;
      settled = t.settled;
      limit = cond better (n - 1) t.limit;
      goal = cond better w t.goal;
      tries = t.tries;
    }

unfoldable pub relaxed : Graph → State → State
relaxed g t =
    let w : ℕ = g.next t.current t.code in
    let n : ℕ = at t.dist t.current + g.price t.current t.code in
    cond (eqb (at t.dist w) 0) (lowered g t w n) (cond (ltb n (at t.dist w)) (lowered g t w n) t)

-- past the current entry
unfoldable pub past : State → List Tried → State
past t tries = record {
  dist = t.dist;
  order = t.order;
  via = t.via;
  current = t.current;
  code = suc t.code;
  settled = t.settled;
  limit = t.limit;
  goal = t.goal;
  tries = tries;
}

-- the next entry is there and legal
unfoldable pub ready : Graph → State → Bool
ready g t = ltb t.code g.codes && g.legal t.current t.code

-- one move of the search: a try, or passing over an entry that is not legal, or the next position
unfoldable pub tick : Graph → State → State
tick g t =
    cond (ready g t) (past (relaxed g t) (record { position = t.current; code = t.code } ∷ t.tries))
    (cond (ltb t.code g.codes) (past t t.tries) (onward g (closed t)))

unfoldable pub used : State → ℕ
used t = length t.tries

-- over
unfoldable pub over : Graph → State → Bool
over g t = leb (size g) t.current

-- over, or before a try with no step left
unfoldable pub halts : Graph → ℕ → State → Bool
halts g m t = cond (over g t) true (ready g t && leb m (used t))

unfoldable pub run : Graph → ℕ → ℕ → State → State
run g zero m t = t
run g (suc f) m t = cond (halts g m t) t (run g f m (tick g t))

-- after at most m tries
unfoldable pub searched : Graph → ℕ → ℕ → State
searched g own m = run g ((g.codes + 1) * size g + 1) m (initial g own)

-- the position from which v was reached, and the entry there
abbrev pub from_of : Graph → List ℕ → ℕ → ℕ
from_of g via v = at via v / g.codes

abbrev pub by_of : Graph → List ℕ → ℕ → ℕ
by_of g via v = at via v % g.codes

-- the entries on the way to v, before those of ks
unfoldable pub route : Graph → ℕ → State → ℕ → List ℕ → List ℕ
route g zero t v ks = ks
route g (suc n) t v ks = cond (eqb v 0) ks (route g n t (from_of g t.via v) (by_of g t.via v ∷ ks))

-- what φ gives for each entry of a path, with the position where it stands
abbrev pub forward : Graph → (ℕ → ℕ → ℕ) → ℕ → List ℕ → List ℕ
forward g φ u [] = []
forward g φ u (k ∷ ks) = φ u k ∷ forward g φ (g.next u k) ks

-- the same read from the table on the way back from v, before xs
unfoldable pub trail : Graph → (ℕ → ℕ → ℕ) → ℕ → List ℕ → ℕ → List ℕ → List ℕ
trail g φ zero via v xs = xs
trail g φ (suc n) via v xs = cond (eqb v 0) xs (trail g φ n via (from_of g via v) (φ (from_of g via v) (by_of g via v) ∷ xs))

-- ---- what was tried

unfoldable pub is : Tried → ℕ → ℕ → Bool
is x u k = eqb x.position u && eqb x.code k

abbrev pub was_tried : List Tried → ℕ → ℕ → Bool
was_tried [] u k = false
was_tried (x ∷ xs) u k = cond (is x u k) true (was_tried xs u k)

-- position u is 0 or where one of the tries leads
abbrev pub reached : Graph → List Tried → ℕ → Bool
reached g [] u = eqb u 0
reached g (x ∷ xs) u = cond (eqb (g.next x.position x.code) u) true (reached g xs u)

-- each try is a legal entry of a position reached by then, and was not made before
abbrev pub Trace : Graph → List Tried → Type 0
Trace g [] = Unit {0}
Trace g (x ∷ xs) =
    (x.code < g.codes) × (g.legal x.position x.code ≡ true) × (reached g xs x.position ≡ true) × (was_tried xs x.position x.code ≡ false) × Trace g xs

-- each entry of the path was tried where it stands
abbrev pub EachTried : Graph → List Tried → ℕ → List ℕ → Type 0
EachTried g xs u [] = Unit {0}
EachTried g xs u (k ∷ ks) = (was_tried xs u k ≡ true) × EachTried g xs (g.next u k) ks

-- what the search gives with m steps, where own is the cost of what is there before
pub record Best (g : Graph) (own m : ℕ) : Type 0 where
  -- a path to a final position at this cost, where one was found; else the cost is the old one
  pub none : (searched g own m).goal ≡ size g → (searched g own m).limit ≡ own
  pub legal : (searched g own m).goal ≢ size g → Lawful g 0 (route g (size g + 1) (searched g own m) (searched g own m).goal [])
  pub final : (searched g own m).goal ≢ size g → g.final (walk g 0 (route g (size g + 1) (searched g own m) (searched g own m).goal [])) ≡ true
  pub cost : (searched g own m).goal ≢ size g → total g 0 (route g (size g + 1) (searched g own m) (searched g own m).goal []) ≡ (searched g own m).limit
  pub short : (searched g own m).goal ≢ size g → length (route g (size g + 1) (searched g own m) (searched g own m).goal []) ≤ size g
  -- which the table gives on the way back, inside the positions
  pub goal-lt : (searched g own m).goal ≢ size g → (searched g own m).goal < size g
  pub within-from : (v : ℕ) → from_of g (searched g own m).via v < size g
  pub spelt : (searched g own m).goal ≢ size g → (φ : ℕ → ℕ → ℕ) → forward g φ 0 (route g (size g + 1) (searched g own m) (searched g own m).goal [])
      ≡ trail g φ (size g + 1) (searched g own m).via (searched g own m).goal []
  pub cheaper : (searched g own m).limit ≤ own
  -- with no step it is the old one
  pub nothing : m ≡ 0 → (searched g own m).goal ≡ size g
  -- more steps never give a dearer one
  pub better : (n : ℕ) → m ≤ n → (searched g own n).limit ≤ (searched g own m).limit
  -- no path whose every entry was tried where it stands is cheaper
  pub tried : (ks : List ℕ) → EachTried g (searched g own m).tries 0 ks → g.final (walk g 0 ks) ≡ true → (searched g own m).limit ≤ total g 0 ks
  -- the steps: legal, from reached positions, none twice
  pub trace : Trace g (searched g own m).tries
  pub within : used (searched g own m) ≤ m
  -- some are left over only once it is called least
  pub left : used (searched g own m) < m → over g (searched g own m) ≡ true
  -- which it is only if no path is cheaper
  pub least : over g (searched g own m) ≡ true → (ks : List ℕ) → Lawful g 0 ks → g.final (walk g 0 ks) ≡ true → (searched g own m).limit ≤ total g 0 ks
  pub suffice : g.codes * size g ≤ m → over g (searched g own m) ≡ true
