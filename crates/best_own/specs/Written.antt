-- What `own_actions` promises.
use Rattle.std.specs.Prelude.{ℕ, ◌≤◌, ◌≡◌, List, ◌++◌, length, drop}
use Rattle.protocol_types.specs.declared.Setup.{Setup}
use Rattle.best_search.specs.Search.{total}
use Rattle.best_positions.specs.Position.{board}
use Rattle.best_own.specs.declared.Own.{Own}
use Rattle.best_own.specs.Own.{own_codes, own_numbers}

-- the engine's own actions stand at the front of the list, whose other numbers stay; r tells how many, and what they cost
pub record OwnWritten (s : Setup) (asks : List ℕ) (r : Own) (before after : List ℕ) : Type 0 where
  pub numbers : after ≡ own_numbers s asks ++ drop (length (own_numbers s asks)) before
  pub count : r.length ≡ length (own_numbers s asks)
  pub short : r.length ≤ 3096
  pub cost : r.cost ≡ total (board s asks) 0 (own_codes s asks)
  pub small : r.cost ≤ 60000
