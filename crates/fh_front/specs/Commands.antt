-- The command of a request.
use Rattle.std.specs.Prelude.{ℕ, if◌then◌else◌, List, [], ◌∷◌, codes, Option, Some, None, Result, Ok, Err}
use Rattle.std.specs.Str.{is_utf8}
use Rattle.fh_event.specs.declared.command.Command.{Command}
use Rattle.fh_event.specs.declared.command.Command.TheVariants.{MakeQueue, Put, Take, Update, Delete, Clear, PutBlob, DeleteBlob, Acquire, RenewLease, ReleaseLease, Peek, GetBlob, Locate}
use Rattle.fh_wire.specs.declared.request.HttpIn.{HttpIn}
use Rattle.fh_front.specs.declared.commands.FrontAsk.{FrontAsk}
use Rattle.fh_front.specs.declared.commands.FrontAsk.TheVariants.{Ask, Stop}
use Rattle.fh_front.specs.declared.fault.FrontFault.{FrontFault}
use Rattle.fh_front.specs.declared.page.Action.{Action}
use Rattle.fh_front.specs.declared.page.Action.TheVariants as action
use Rattle.fh_front.specs.Answers.{◌>>=◌}
use Rattle.fh_front.specs.Paths.{path_of, query_of, behind_word, name_part, blob_part, message_part, text_of, text_of_part}
use Rattle.fh_front.specs.Queries.{needed, number_or, lifetime, number_of_part}
use Rattle.fh_front.specs.Routes.{page_of, action_of}

-- ---- each row: its numbers, and then its texts

unfoldable pub make_queue : List ℕ → Result Command FrontFault
make_queue path = text_of_part (name_part path) >>= λ queue. Ok (MakeQueue queue)

unfoldable pub put : List ℕ → List ℕ → List ℕ → Result Command FrontFault
put path query body =
    number_or 0 (codes "delay") query >>= λ delay.
    (lifetime query >>= λ ttl.
    (text_of_part (name_part path) >>= λ queue.
    (text_of body >>= λ text. Ok (Put queue delay ttl text))))

unfoldable pub take : List ℕ → List ℕ → Result Command FrontFault
take path query =
    number_or 1 (codes "count") query >>= λ count.
    (number_or 30 (codes "hold") query >>= λ hold.
    (text_of_part (name_part path) >>= λ queue. Ok (Take queue count hold)))

unfoldable pub clear : List ℕ → Result Command FrontFault
clear path = text_of_part (name_part path) >>= λ queue. Ok (Clear queue)

unfoldable pub peek : List ℕ → List ℕ → Result Command FrontFault
peek path query =
    number_or 1 (codes "count") query >>= λ count.
    (text_of_part (name_part path) >>= λ queue. Ok (Peek queue count))

-- a body that isn't empty, as a text
unfoldable pub new_text : List ℕ → Result (Option (List ℕ)) FrontFault
new_text [] = Ok None
new_text (byte ∷ bytes) = text_of (byte ∷ bytes) >>= λ text. Ok (Some text)

unfoldable pub update : List ℕ → List ℕ → List ℕ → Result Command FrontFault
update path query body =
    number_of_part (message_part path) >>= λ id.
    (needed (codes "receipt") query >>= λ receipt.
    (number_or 30 (codes "hold") query >>= λ hold.
    (text_of_part (name_part path) >>= λ queue.
    (new_text body >>= λ text. Ok (Update queue id receipt hold text)))))

unfoldable pub delete : List ℕ → List ℕ → Result Command FrontFault
delete path query =
    number_of_part (message_part path) >>= λ id.
    (needed (codes "receipt") query >>= λ receipt.
    (text_of_part (name_part path) >>= λ queue. Ok (Delete queue id receipt)))

unfoldable pub put_blob : List ℕ → List ℕ → Result Command FrontFault
put_blob path body =
    text_of_part (name_part path) >>= λ container.
    (text_of_part (blob_part path) >>= λ blob.
    (text_of body >>= λ text. Ok (PutBlob container blob text)))

unfoldable pub get_blob : List ℕ → Result Command FrontFault
get_blob path =
    text_of_part (name_part path) >>= λ container.
    (text_of_part (blob_part path) >>= λ blob. Ok (GetBlob container blob))

unfoldable pub delete_blob : List ℕ → Result Command FrontFault
delete_blob path =
    text_of_part (name_part path) >>= λ container.
    (text_of_part (blob_part path) >>= λ blob. Ok (DeleteBlob container blob))

unfoldable pub acquire : List ℕ → List ℕ → Result Command FrontFault
acquire path query =
    needed (codes "holder") query >>= λ holder.
    (needed (codes "seconds") query >>= λ seconds.
    (text_of_part (name_part path) >>= λ lease. Ok (Acquire lease holder seconds)))

unfoldable pub renew : List ℕ → List ℕ → Result Command FrontFault
renew path query =
    needed (codes "holder") query >>= λ holder.
    (text_of_part (name_part path) >>= λ lease. Ok (RenewLease lease holder))

unfoldable pub release : List ℕ → List ℕ → Result Command FrontFault
release path query =
    needed (codes "holder") query >>= λ holder.
    (text_of_part (name_part path) >>= λ lease. Ok (ReleaseLease lease holder))

unfoldable pub locate : List ℕ → Result Command FrontFault
locate path = number_of_part (behind_word path) >>= λ id. Ok (Locate id)

-- ---- all rows

abbrev pub asking : Result Command FrontFault → Result FrontAsk FrontFault
asking commanded = commanded >>= λ command. Ok (Ask command)

unfoldable pub asked : Action → List ℕ → List ℕ → List ℕ → Result FrontAsk FrontFault
asked action.MakeQueue path query body = asking (make_queue path)
asked action.Put path query body = asking (put path query body)
asked action.Take path query body = asking (take path query)
asked action.Clear path query body = asking (clear path)
asked action.Peek path query body = asking (peek path query)
asked action.Update path query body = asking (update path query body)
asked action.Delete path query body = asking (delete path query)
asked action.PutBlob path query body = asking (put_blob path body)
asked action.GetBlob path query body = asking (get_blob path)
asked action.DeleteBlob path query body = asking (delete_blob path)
asked action.Acquire path query body = asking (acquire path query)
asked action.RenewLease path query body = asking (renew path query)
asked action.ReleaseLease path query body = asking (release path query)
asked action.Locate path query body = asking (locate path)
asked action.Stop path query body = Ok Stop

-- what a row asks; a body has to be a text, also where none is read
unfoldable pub asked_beside : Action → List ℕ → List ℕ → Result FrontAsk FrontFault
asked_beside row target body =
    asked row (path_of target) (query_of target) body >>= λ ask.
    (text_of body >>= λ text. Ok ask)

-- what a request asks: the row of its path, that of its method, its numbers, and then its texts
unfoldable pub command_of : HttpIn → Result FrontAsk FrontFault
command_of request =
    page_of (path_of request.target) >>= λ page.
    (action_of page request.method >>= λ row.
    asked_beside row request.target request.body)
