-- What the code leaves, from what its callees promise.
use Prim.Native.Nat.{ℕ, ◌+◌, ◌-◌, ◌/◌, ◌≤◌}
use mathlib.Core.Path.{◌≡◌, refl, sym, ap, ◌∙◌}
use mathlib.Core.Bool.{Bool}
use mathlib.Core.List.{List, [], ◌∷◌, ◌++◌}
use native.Mathlib.Omega.{arith}
use lib.ListN.{length, drop}
use lib.Dec.{leb}
use Rattle.best_search.specs.Search.{State, total, searched, over, used}
use Rattle.best_positions.specs.Position.{board}
use Rattle.best_positions.specs.Best.{search_tables}
use Rattle.best_lowest.specs.Lowest.{lowest_of}
use Rattle.best_tries.specs.Progress.{state_at}
use Rattle.best_tries.specs.declared.Progress.{Progress}
use Rattle.best_own.specs.Own.{own_codes}
use Rattle.protocol_types.specs.declared.Setup.{Setup}
use Rattle.best_way.proofs.Way.{least-is}
use Rattle.best_schedule.specs.Found.{own_cost, search_found, numbers_to, numbers_found, best_found, tables_after}

-- no request costs nothing
pub own-none : (s : Setup) (asks : List ℕ) → length asks ≡ 0 → total (board s asks) 0 (own_codes s asks) ≡ 0
unfolding own_codes
own-none s [] h = refl
own-none s (a ∷ asks) h = absurd (omega arith)

module _ (s : Setup) (asks : List ℕ) (m own : ℕ) (few : length asks ≤ 24) (cost : own ≡ total (board s asks) 0 (own_codes s asks)) (d o v : List ℕ) (p : Progress)
    (e : state_at d o v p (searched (board s asks) own m).tries ≡ searched (board s asks) own m) where
  pub none : length asks ≡ 0 → own ≡ 0
  none h = cost ∙ own-none s asks h

  state-is : state_at d o v p (searched (board s asks) own m).tries ≡ search_found s asks m
  unfolding search_found own_cost
  state-is = e ∙ ap (λ n. searched (board s asks) n m) cost

  numbers-are : numbers_to s asks v p.goal ≡ numbers_found s asks m
  unfolding numbers_found
  numbers-are = ap (λ (t : State). numbers_to s asks t.via t.goal) state-is

  pub answer-is : (n steps x : ℕ) (least : Bool) → n ≡ length (numbers_to s asks v p.goal) → steps ≡ length (searched (board s asks) own m).tries → least ≡ leb 32400 p.current
      → x ≡ p.limit - (own + 1) / 2 → record { length = n; cost = p.limit; steps = steps; least = least; excess = x } ≡ best_found s asks m
  unfolding best_found used own_cost
  answer-is n steps x least a b c f =
      let tries : steps ≡ length (search_found s asks m).tries = b ∙ ap (λ (t : State). length t.tries) state-is in
      let over-so : least ≡ over (board s asks) (search_found s asks m) = c ∙ least-is s asks m own few none d o v p e ∙ ap (over (board s asks)) (sym e ∙ state-is) in
      let count : n ≡ length (numbers_found s asks m) = a ∙ ap length numbers-are in
      let rest : x ≡ (search_found s asks m).limit - (total (board s asks) 0 (own_codes s asks) + 1) / 2 =
      f ∙ ap (λ (t : State). t.limit - (own + 1) / 2) state-is ∙ ap (λ k. (search_found s asks m).limit - (k + 1) / 2) cost in
      λ i. record { length = count i; cost = (state-is i).limit; steps = tries i; least = over-so i; excess = rest i }

  pub tables-are : (n : ℕ) (d' l : List ℕ) → n ≡ length (numbers_to s asks v p.goal) → d' ≡ numbers_to s asks v p.goal ++ drop n d → l ≡ lowest_of d o
      → search_tables d' o v l ≡ tables_after s asks m
  unfolding tables_after
  tables-are n d' l a b c =
      let numbers : d' ≡ numbers_found s asks m ++ drop (length (numbers_found s asks m)) d =
      b ∙ ap (λ k. numbers_to s asks v p.goal ++ drop k d) a ∙ ap (λ ns. ns ++ drop (length ns) d) numbers-are in
      ap (λ x. search_tables x o v l) numbers ∙ ap (search_tables (numbers_found s asks m ++ drop (length (numbers_found s asks m)) d) o v) c
      ∙ ap (λ (t : State). search_tables (numbers_found s asks m ++ drop (length (numbers_found s asks m)) t.dist) t.order t.via (lowest_of t.dist t.order)) state-is
