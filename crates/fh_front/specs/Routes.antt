-- The table of the front: its paths, and what each method asks there.
use Rattle.std.specs.Prelude.{ℕ, Bool, if◌then◌else◌, List, [], ◌∷◌, codes, Option, Some, None, Result, Ok, Err}
use Rattle.std.specs.Str.{bytes_eq, is_utf8}
use Rattle.matchit.specs.Rows.{RowsOf}
use Rattle.matchit.specs.Order.{placed}
use Rattle.matchit.specs.Route.{Scan, parse_route}
use Rattle.matchit.specs.Router.{RouteOf, route_from}
use Rattle.matchit.specs.Seek.{first}
use Rattle.fh_front.specs.declared.fault.FrontFault.{FrontFault}
use Rattle.fh_front.specs.declared.fault.FrontFault.TheVariants.{NoRoute, BadMethod}
use Rattle.fh_front.specs.declared.page.Page.{Page}
use Rattle.fh_front.specs.declared.page.Page.TheVariants as page
use Rattle.fh_front.specs.declared.page.Action.{Action}
use Rattle.fh_front.specs.declared.page.Action.TheVariants as action

abbrev pub Table : Type 0
Table = RowsOf (RouteOf Page)

abbrev pub placed_route : {E : Type 0} → Result Scan E → Page → Table → Table
placed_route (Ok scanned) page rows = placed (scanned.pattern, route_from scanned page) rows
placed_route (Err fault) page rows = rows

-- the table with one more pattern
abbrev pub with_route : List ℕ → Page → Table → Table
with_route pattern page rows = placed_route (parse_route pattern) page rows

-- the patterns, as `matchit` reads them
unfoldable pub table : Table
table =
    with_route (codes "/admin/stop") page.Stop
    (with_route (codes "/where/{id}") page.Place
    (with_route (codes "/leases/{name}/release") page.Release
    (with_route (codes "/leases/{name}/renew") page.Renew
    (with_route (codes "/leases/{name}/acquire") page.Acquire
    (with_route (codes "/blobs/{container}/{*name}") page.Blob
    (with_route (codes "/queues/{queue}/messages/{id}") page.Message
    (with_route (codes "/queues/{queue}/peek") page.Peek
    (with_route (codes "/queues/{queue}/messages") page.Messages
    (with_route (codes "/queues/{queue}") page.Queue [])))))))))

abbrev pub page_if : Option (RouteOf Page) → Result Page FrontFault
page_if None = Err NoRoute
page_if (Some route) = Ok route.value

-- the page of a path, which is a text
unfoldable pub page_of : List ℕ → Result Page FrontFault
page_of path = if is_utf8 path then page_if (first table path) else Err NoRoute

-- what comes first of a page's methods
abbrev pub by_method : List ℕ → List ℕ → Action → Result Action FrontFault → Result Action FrontFault
by_method name method action others = if bytes_eq method name then Ok action else others

abbrev pub put : List ℕ → Action → Result Action FrontFault → Result Action FrontFault
put method action others = by_method (codes "PUT") method action others

abbrev pub get : List ℕ → Action → Result Action FrontFault → Result Action FrontFault
get method action others = by_method (codes "GET") method action others

abbrev pub post : List ℕ → Action → Result Action FrontFault → Result Action FrontFault
post method action others = by_method (codes "POST") method action others

abbrev pub delete : List ℕ → Action → Result Action FrontFault → Result Action FrontFault
delete method action others = by_method (codes "DELETE") method action others

-- what a method asks of a page
unfoldable pub action_of : Page → List ℕ → Result Action FrontFault
action_of page.Queue method = put method action.MakeQueue (Err BadMethod)
action_of page.Messages method =
    post method action.Put (get method action.Take (delete method action.Clear (Err BadMethod)))
action_of page.Peek method = get method action.Peek (Err BadMethod)
action_of page.Message method = put method action.Update (delete method action.Delete (Err BadMethod))
action_of page.Blob method =
    put method action.PutBlob (get method action.GetBlob (delete method action.DeleteBlob (Err BadMethod)))
action_of page.Acquire method = post method action.Acquire (Err BadMethod)
action_of page.Renew method = post method action.RenewLease (Err BadMethod)
action_of page.Release method = post method action.ReleaseLease (Err BadMethod)
action_of page.Place method = get method action.Locate (Err BadMethod)
action_of page.Stop method = post method action.Stop (Err BadMethod)
