-- The price over records, each of which is a cell of its list. Assumes nothing.
use mathlib.Core.Path.{◌≡◌, refl}
use mathlib.Core.Bool.{Bool, ◌&&◌}
use mathlib.Core.List.{List}
use Rattle.protocol_types.specs.declared.Setup.{Setup}
use Rattle.protocol_types.specs.declared.Request.{Request}
use Rattle.protocol_types.specs.declared.Entry.{Entry}
use Rattle.protocol.specs.Rival.{Rival}
use Rattle.protocol.specs.Pricer.{price, price_tables, price_numbers}
use Rattle.stored_lists.specs.Lists.{always, same}
use Rattle.rival_pricer.specs.Priced.{price_of_lists, price_in_numbers_of_lists, price_tables_of_lists}

module _ (s : Setup) (lent : Rival) (qs : List Request) (es : List Entry) where
  abbrev both_whole : Bool
  both_whole = always qs && always es

  pub price_records : price_of_lists s lent both_whole (same qs) (same es) ≡ price s lent qs es
  price_records = refl

  pub price_records_numbered : price_in_numbers_of_lists s lent both_whole (same qs) (same es) ≡ price_numbers s lent qs es
  price_records_numbered = refl

  pub price_records_tables : price_tables_of_lists s lent both_whole (same qs) (same es) ≡ price_tables s lent qs es
  price_records_tables = refl
