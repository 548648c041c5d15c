-- The kinds of a schedule's cost: its update cycles are what its completions cost, its write-back cycles g for each write-back.
use Prim.Native.Nat.{◌*◌}
use mathlib.Core.Path.{◌≡◌, refl}
use mathlib.Core.Bool.{cond}
use mathlib.Core.List.{List, [], ◌∷◌}
use native.Mathlib.Omega.{arith}
use native.Mathlib.Nat.{mul-add}
use Rattle.protocol_types.specs.Board.{write_back_price}
use Rattle.protocol.specs.Accounts.{cycles}
use Rattle.protocol.specs.Rival.{Rival, no_copies, played, left, cost, costs}
use Rattle.competitive.specs.Claims.{is_completion, completion_costs, is_write_back, write_backs, CostKinds}
use Rattle.protocol_types.specs.declared.Setup.{Setup}
use Rattle.protocol_types.specs.declared.Request.{Request}
use Rattle.protocol_types.specs.declared.Entry.{Entry}
use Rattle.protocol_types.specs.declared.Entry.TheVariants.{Fetch, WriteBack, Drop, Complete, CompleteByBroadcast}

module _ (s : Setup) where
  -- ---- an entry

  entry-update : (r : Rival) (qs : List Request) (e : Entry) → (cost s r qs e).update ≡ cond (is_completion e) (cycles (cost s r qs e)) 0
  entry-update r qs (Fetch i b) = refl
  entry-update r qs (WriteBack i b) = refl
  entry-update r qs (Drop i b) = refl
  entry-update r qs Complete = omega arith
  entry-update r qs CompleteByBroadcast = omega arith

  entry-write-back : (r : Rival) (qs : List Request) (e : Entry) → (cost s r qs e).write_back ≡ write_back_price s * cond (is_write_back e) 1 0
  entry-write-back r qs (Fetch i b) = omega arith
  entry-write-back r qs (WriteBack i b) = omega arith
  entry-write-back r qs (Drop i b) = omega arith
  entry-write-back r qs Complete = omega arith
  entry-write-back r qs CompleteByBroadcast = omega arith

  -- ---- a schedule

  updates-paid : (r : Rival) (qs : List Request) (es : List Entry) → (costs s r qs es).update ≡ completion_costs s r qs es
  updates-paid r qs [] = refl
  updates-paid r qs (e ∷ es) = omega (arith, entry-update r qs e, updates-paid (played s r qs e) (left qs e) es)

  write-backs-paid : (r : Rival) (qs : List Request) (es : List Entry) → (costs s r qs es).write_back ≡ write_back_price s * write_backs es
  write-backs-paid r qs [] = omega arith
  write-backs-paid r qs (e ∷ es) =
      omega (
        arith,
        entry-write-back r qs e,
        write-backs-paid (played s r qs e) (left qs e) es,
        mul-add (write_back_price s) (cond (is_write_back e) 1 0) (write_backs es),
      )

  pub cost-kinds : (qs : List Request) (es : List Entry) → CostKinds s qs es
  cost-kinds qs es = record { completions = omega (arith, updates-paid (no_copies s) qs es); write-backs = omega (arith, write-backs-paid (no_copies s) qs es) }
