-- What is posted has no fractions, so its text is exact.
use Rattle.std.proofs.Common.{◌≡◌, ℕ, false, List, [], ◌∷◌, ◌||◌, refl, Some, None}
use Rattle.std.proofs.lemmas.Bool.{or_parts}
use Rattle.std.specs.Ordering.{nat_cmp, match_ordering}
use Rattle.std.specs.declared.cmp.Ordering.{Ordering}
use Rattle.std.specs.declared.cmp.Ordering.TheVariants.{Less, Equal, Greater}
use Rattle.std.specs.Cmp.Lexicographic.{slice_cmp}
use Rattle.serde_json.specs.Data.{Data, string, Members, no_members, member, put}
use Rattle.serde_json.specs.Written.{has_float, members_have_float}
use Rattle.fh_event.specs.declared.begun.Begun.{Begun}
use Rattle.fh_invoke.specs.declared.subject.Subject.{Subject}
use Rattle.fh_invoke.specs.declared.subject.Subject.TheVariants.{Bare, Queue, Blob, Timer}
use Rattle.fh_invoke.specs.Requests.{with_names, request_about}

put_at : (o : Ordering) (k l : List ℕ) (d e : Data) (ms : Members) → has_float d ≡ false
    → has_float e || members_have_float ms ≡ false → members_have_float (put k d ms) ≡ false
    → members_have_float (match_ordering o (member k d (member l e ms)) (member l d ms)
    (member l e (put k d ms))) ≡ false
put_at Less k l d e ms none old later = rw (none, old) refl
put_at Equal k l d e ms none old later = rw (none, (or_parts (has_float e) _ old).1) refl
put_at Greater k l d e ms none old later = rw ((or_parts (has_float e) _ old).0, later) refl

put_has_none : (k : List ℕ) (d : Data) (ms : Members) → has_float d ≡ false → members_have_float ms ≡ false
    → members_have_float (put k d ms) ≡ false
put_has_none k d no_members none old = rw none refl
put_has_none k d (member l e ms) none old =
    put_at (slice_cmp nat_cmp k l) k l d e ms none old (put_has_none k d ms none (or_parts (has_float e) _ old).1)

names_have_none : (names : List (List ℕ × List ℕ)) (ms : Members) → members_have_float ms ≡ false
    → members_have_float (with_names names ms) ≡ false
names_have_none [] ms old = old
names_have_none (name ∷ names) ms old =
    names_have_none names (put name.0 (string name.1) ms) (put_has_none name.0 (string name.1) ms refl old)

pub request_has_none : (begun : Begun) (name : List ℕ) (subject : Subject)
    → has_float (request_about begun name subject) ≡ false
request_has_none begun name Bare = refl
request_has_none begun name (Queue message) = refl
request_has_none begun name (Blob None None) = refl
request_has_none begun name (Blob (Some content) None) = refl
request_has_none begun name (Blob None (Some place)) = rw (names_have_none place.names _ refl) refl
request_has_none begun name (Blob (Some content) (Some place)) = rw (names_have_none place.names _ refl) refl
request_has_none begun name (Timer past_due last next updated) = refl
