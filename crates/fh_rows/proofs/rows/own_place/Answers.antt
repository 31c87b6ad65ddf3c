use Rattle.std.proofs.Common.{rules}
use Rattle.std.proofs.lemmas.Fn.{always_returns_same}
use Rattle.fh_rows.proofs.Order.{place_of-search}
use Rattle.fh_rows.proofs.rows.own_place.Goals as goal

pub returns : goal.returns
returns g c =
    let like = c.args.new.now in
    let found = c.binary_search_by.ensures.position (λ row. g.R.Row.order row like) (always_returns_same _ _ _
    (λ a r f' called. search rules)) in
    place_of-search g.R.Row.order g.met.R.Row.total c.args.rows.now like c.binary_search_by.result c.requires c.binary_search_by.ensures.bound found
