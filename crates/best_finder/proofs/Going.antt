-- What the search's loop keeps.
use Prim.Native.Nat.{ℕ, ◌+◌, ◌*◌, ◌≤◌, ◌<◌}
use mathlib.Core.Path.{◌≡◌, refl, sym, ap, ◌∙◌, subst}
use mathlib.Core.Bool.{true, false}
use mathlib.Core.List.{List, []}
use native.Mathlib.Omega.{arith}
use lib.ListN.{length}
use Rattle.protocol_types.specs.Lists.{at}
use Rattle.protocol_types.specs.declared.Setup.{Setup}
use Rattle.best_search.specs.Search.{Graph, size, State, Tried, initial, halts, tick, searched}
use Rattle.best_search.proofs.Machine.{Closed}
use Rattle.best_search.proofs.Loop.{fuel, Kept, kept-start, kept_on, kept-end, fuel-falls, near-start, tick-near, some-halts, next-open}
use Rattle.best_positions.specs.Position.{board}
use Rattle.best_positions.proofs.Schedules.{codes-is, size_is, closed-asks}
use Rattle.best_tries.specs.declared.Progress.{Progress}
use Rattle.best_tries.specs.Progress.{state_at}
use Rattle.best_finder.specs.Moves.{Moved, OpenNext}

-- what a search needs of its requests and of the old cost
pub record Asked (asks : List ℕ) (own : ℕ) : Type 0 where
  pub few : length asks ≤ 24
  pub none : length asks ≡ 0 → own ≡ 0

pub closed_of : (s : Setup) (asks : List ℕ) (own : ℕ) → Asked asks own → Closed (board s asks) own
closed_of s asks own h = closed-asks s asks own h.few h.none

pub record Going (s : Setup) (asks : List ℕ) (steps own : ℕ) (d o v : List ℕ) (p : Progress) : Type 0 where
  pub fit : Asked asks own
  pub tries : List Tried
  pub count : length tries ≡ p.used
  pub kept : Kept (board s asks) own steps (closed_of s asks own fit) (state_at d o v p tries)
  pub near : p.current < 32400 → at d p.current ≤ own + 1

-- what is there when a move is made
pub record Ready (s : Setup) (asks : List ℕ) (own : ℕ) (d o v : List ℕ) (p : Progress) : Type 0 where
  pub current : p.current < 32400
  pub settled : p.settled < 32400
  pub used : p.used < 583201
  pub some : 1 ≤ at d p.current
  pub near : at d p.current ≤ own + 1
  pub next : OpenNext (board s asks) d o p.current p.code

module _ (s : Setup) (asks : List ℕ) (steps own : ℕ) (d o v : List ℕ) (p : Progress) (w : Going s asks steps own d o v p) where
  abbrev g : Graph
  g = board s asks

  abbrev cl : Closed (board s asks) own
  cl = closed_of s asks own w.fit

  abbrev t : State
  t = state_at d o v p w.tries

  pub lengths : (length d ≡ 32400) × (length o ≡ 32400) × (length v ≡ 32400)
  lengths = let z = w.kept.inv.shape in (z.dist ∙ size_is s asks, z.order ∙ size_is s asks, z.via ∙ size_is s asks)

  pub going-ready : halts g steps t ≡ false → Ready s asks own d o v p
  going-ready e =
      let h = some-halts g own steps cl t w.kept e in
      let c : p.current < 32400 = omega (arith, h.0, size_is s asks) in
      let f : length w.tries ≤ 18 * p.settled + p.code = subst (λ z. length w.tries ≤ z * p.settled + p.code) (codes-is s asks) w.kept.inv.entries.few in
      record {
        current = c;
        settled = omega (arith, h.1, size_is s asks);
        used = omega (arith, w.count, h.1, size_is s asks, w.kept.inv.shape.code, codes-is s asks);
        some = w.kept.inv.core.cur-met h.0;
        near = w.near c;
        next = next-open g own t cl w.kept.inv h.0;
      }

  module _ (e : halts g steps t ≡ false) (d' o' v' : List ℕ) (p' : Progress) (q : Moved g t d' o' v' p') where
    pub going_on_lem : Going s asks steps own d' o' v' p'
    going_on_lem =
        let h = some-halts g own steps cl t w.kept e in
        record {
          fit = w.fit;
          tries = (tick g t).tries;
          count = q.count;
          kept = subst (Kept g own steps cl) (sym q.state) (kept_on g own steps cl t w.kept e);
          near = λ c. subst (λ (z : State). at z.dist z.current ≤ own + 1) (sym q.state)
              (tick-near g own t cl w.kept.inv h.0 (w.near (omega (arith, h.0, size_is s asks))) (omega (arith, ap (λ (z : State). z.current) q.state, size_is s asks)));
        }

    pub going-falls : fuel g (state_at d' o' v' p' []) < fuel g (state_at d o v p [])
    unfolding fuel
    going-falls = omega (arith, ap (fuel g) q.state, fuel-falls g own steps cl t w.kept e)

  pub going_end : halts g steps t ≡ true → (state_at d o v p (searched g own steps).tries ≡ searched g own steps) × (p.used ≡ length (searched g own steps).tries)
  going_end e =
      let q : state_at d o v p w.tries ≡ searched g own steps = kept-end g own steps cl t w.kept e in
      (ap (λ z. state_at d o v p z) (sym (ap (λ (z : State). z.tries) q)) ∙ q, sym w.count ∙ ap (λ (z : State). length z.tries) q)

pub going_start : (s : Setup) (asks : List ℕ) (steps own : ℕ) (fit : Asked asks own) (d o v : List ℕ)
    → d ≡ (initial (board s asks) own).dist → o ≡ (initial (board s asks) own).order → v ≡ (initial (board s asks) own).via
    → Going s asks steps own d o v (record { current = 0; code = 0; settled = 0; limit = own; goal = 32400; used = 0 })
unfolding initial board size
going_start s asks steps own fit d o v ed eo ev =
    record {
      fit = fit;
      tries = [];
      count = refl;
      kept = subst (Kept (board s asks) own steps (closed_of s asks own fit))
          (λ i. record { dist = sym ed i; order = sym eo i; via = sym ev i; current = 0; code = 0; settled = 0; limit = own; goal = 32400; tries = [] })
          (kept-start (board s asks) own steps (closed_of s asks own fit));
      near = λ c. subst (λ z. at z 0 ≤ own + 1) (sym ed) (near-start (board s asks) own (closed_of s asks own fit));
    }

-- the tables keep their lengths
pub same-lengths : (s : Setup) (asks : List ℕ) (steps own : ℕ) (fit : Asked asks own) (d o v : List ℕ)
    → d ≡ (initial (board s asks) own).dist → o ≡ (initial (board s asks) own).order → v ≡ (initial (board s asks) own).via
    → (d' o' v' : List ℕ) (p : Progress) → Going s asks steps own d' o' v' p → (length d' ≡ length d) × (length o' ≡ length o) × (length v' ≡ length v)
same-lengths s asks steps own fit d o v ed eo ev d' o' v' p w =
    let x = lengths s asks steps own d' o' v' p w in
    let y = lengths s asks steps own d o v _ (going_start s asks steps own fit d o v ed eo ev) in
    (x.0 ∙ sym y.0, x.1 ∙ sym y.1, x.2 ∙ sym y.2)
