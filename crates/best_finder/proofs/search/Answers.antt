-- Cleared tables are where the search starts.
use mathlib.Core.Path.{refl, sym, ap, ◌∙◌}
use lib.ListN.{length, set}
use Rattle.protocol_types.specs.Lists.{zeros}
use Rattle.best_search.specs.Search.{initial, size}
use Rattle.best_positions.specs.Position.{board}
use Rattle.best_lowest.specs.Lowest.{lowest_of}
use Rattle.best_lowest.proofs.Lowest.{groups-length, lowest_start}
use Rattle.best_finder.proofs.search.Goals as goal

pub search_from_start-requires : goal.search_from_start-requires
unfolding initial board size
search_from_start-requires c =
    let a = c.args in
    let z = c.requires in
    let d = c.begin.ensures ∙ ap (λ n. set (zeros n) 0 1) z.sized.0 in
    let o = c.fill.ensures.after (λ y e. e) ∙ ap zeros z.sized.1 in
    let e = c.begin-2.ensures ∙ lowest_start 32400 (length a.lowest.now) refl z.sized.3 ∙ (λ i. lowest_of (sym d i) (sym o i)) in record {
      fits = z.fits;
      own_cost = z.own_cost;
      distances = d;
      order = o;
      predecessors = c.fill-2.ensures.after (λ y e. e) ∙ ap zeros z.sized.2;
      lowest = (ap length e ∙ groups-length 900 _ _, e);
    }
