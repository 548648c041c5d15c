-- The moves of the search, and when it halts, as the code has them.
use Prim.Native.Nat.{ℕ, ◌+◌, ◌≤◌, ◌<◌}
use mathlib.Core.Path.{◌≡◌, refl, sym, ap, ◌∙◌}
use mathlib.Core.Bool.{Bool, true, false, ◌&&◌}
use mathlib.Core.List.{List, ◌∷◌}
use native.Mathlib.Omega.{arith}
use lib.ListN.{length}
use borrow.Author.Tests.{le-leb, lt-leb, lt-ltb, le-ltb}
use Rattle.protocol_types.specs.Lists.{at}
use Rattle.protocol_types.specs.declared.Setup.{Setup}
use Rattle.best_search.specs.Search.{Graph, size, State, Tried, past, relaxed, closed, moved, onward, ready, tick, halts, used}
use Rattle.best_search.specs.Search
use Rattle.best_positions.specs.Position.{board, legal_at}
use Rattle.best_tries.specs.declared.Progress.{Progress}
use Rattle.best_tries.specs.Progress.{state_at, Falls}
use Rattle.best_finder.specs.Moves.{Moved, OpenNext}

-- the position where a legal entry leads is not settled, where its distance falls
pub open-there : (g : Graph) (d o : List ℕ) (u k w c : ℕ) → w ≡ g.next u k → c ≡ g.price u k → g.legal u k ≡ true → OpenNext g d o u k → Falls d w (at d u + c) → at o w ≡ 0
open-there g d o u k w c to cost al f h =
    let e : at d w ≡ at d (g.next u k) = ap (at d) to in
    ap (at o) to ∙ f al (λ m. omega (arith, e, cost, h (omega (arith, e))))

-- ---- a move

pub moved_by : (g : Graph) (t y : State) (d o v : List ℕ) (r : Progress) → tick g t ≡ y → state_at d o v r y.tries ≡ y → length y.tries ≡ r.used → Moved g t d o v r
moved_by g t y d o v r e h l =
    record { state = ap (λ (z : State). state_at d o v r z.tries) e ∙ h ∙ sym e; count = ap (λ (z : State). length z.tries) e ∙ l }

module _ (s : Setup) (asks : List ℕ) (t : State) where
  pub tick-settle : 18 ≤ t.code → tick (board s asks) t ≡ onward (board s asks) (closed t)
  unfolding tick ready board
  tick-settle h = rw (le-ltb t.code 18 h)

  pub tick-try : t.code < 18 → legal_at s asks t.current t.code ≡ true → tick (board s asks) t ≡ past (relaxed (board s asks) t) (record { position = t.current; code = t.code } ∷ t.tries)
  unfolding tick ready board
  tick-try h e = rw (lt-ltb t.code 18 h, e)

  pub tick-skip : t.code < 18 → legal_at s asks t.current t.code ≡ false → tick (board s asks) t ≡ past t t.tries
  unfolding tick ready board
  tick-skip h e = rw (lt-ltb t.code 18 h, e)

  -- ---- halting

  module _ (m : ℕ) where
    pub halts-over : 32400 ≤ t.current → true ≡ halts (board s asks) m t
    unfolding halts Search.over board size
    halts-over h = rw (le-leb 32400 t.current h)

    pub halts-not : t.current < 32400 → length t.tries < m → false ≡ halts (board s asks) m t
    unfolding halts Search.over board size used
    halts-not h l = rw (lt-leb 32400 t.current h, lt-leb m (length t.tries) l) (sym (go (ready (board s asks) t)))
      where
        go : (c : Bool) → c && false ≡ false
        go true = refl
        go false = refl

    pub halts-settle : t.current < 32400 → 18 ≤ t.code → false ≡ halts (board s asks) m t
    unfolding halts Search.over ready board size
    halts-settle h k = rw (lt-leb 32400 t.current h, le-ltb t.code 18 k)

    pub halts-try : t.current < 32400 → t.code < 18 → m ≤ length t.tries → legal_at s asks t.current t.code ≡ halts (board s asks) m t
    unfolding halts Search.over ready board size used
    halts-try h k l = rw (lt-leb 32400 t.current h, lt-ltb t.code 18 k, le-leb m (length t.tries) l) (sym (go (legal_at s asks t.current t.code)))
      where
        go : (c : Bool) → c && true ≡ c
        go true = refl
        go false = refl

pub onward-tries : (g : Graph) (t : State) → (onward g (closed t)).tries ≡ t.tries
unfolding onward moved closed
onward-tries g t = refl

pub past-tries : (t : State) (us : List Tried) → (past t us).tries ≡ us
unfolding past
past-tries t us = refl
