use Rattle.fh_queues.proofs.Listing.{lists_in_order}
use Rattle.fh_queues.proofs.laws.peeks_list_in_order_of_number.Goals as goal

pub returns : goal.returns
returns c = lists_in_order
