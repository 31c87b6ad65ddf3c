-- The text of a head, as it is formatted, is the text of its lines.
use Rattle.std.proofs.Common.{◌≡◌, ◌∙◌, List, ℕ, [], ◌∷◌, ◌++◌, append_assoc, sym, ap}
use Rattle.std.specs.Prelude.{codes}
use Rattle.fh_wire.specs.Written.{line}

spread : (a n m p q s r body : List ℕ)
    → (a ++ (n ++ (m ++ (p ++ (q ++ (s ++ r)))))) ++ body ≡ a ++ (n ++ (m ++ (p ++ (q ++ (s ++ (r ++ body))))))
spread a n m p q s r body = simp append_assoc

-- the lines of a head whose second line has a value
regrouped : (a n b e h p t l s c body : List ℕ)
    → (a ++ n ++ b ++ e) ++ (h ++ p ++ e) ++ ((t ++ e) ++ (l ++ s ++ e) ++ (c ++ e) ++ ([] ++ e)) ++ body
    ≡ a ++ (n ++ ((b ++ (e ++ h)) ++ (p ++ ((e ++ (t ++ (e ++ l))) ++ (s ++ ((e ++ (c ++ (e ++ e))) ++ body))))))
regrouped a n b e h p t l s c body = simp append_assoc

abbrev crlf : List ℕ
crlf = 13 ∷ 10 ∷ []

pub request_lines : (head name port size body : List ℕ)
    → head ≡ codes "POST /" ++ (name ++
    ((codes " HTTP/1.0" ++ (crlf ++ codes "Host: 127.0.0.1:"))
    ++ (port ++ ((crlf ++ (codes "Content-Type: application/json" ++ (crlf ++ codes "Content-Length: ")))
    ++ (size ++ (crlf ++ (codes "Connection: close" ++ (crlf ++ crlf))))))))
    → head ++ body
    ≡ line (codes "POST /" ++ name ++ codes " HTTP/1.0") ++ line (codes "Host: 127.0.0.1:" ++ port)
    ++ (line (codes "Content-Type: application/json") ++ line (codes "Content-Length: " ++ size)
    ++ line (codes "Connection: close") ++ line []) ++ body
request_lines head name port size body is =
    ap (λ (t : List ℕ). t ++ body) is
    ∙ spread (codes "POST /") name (codes " HTTP/1.0" ++ (crlf ++ codes "Host: 127.0.0.1:")) port
    (crlf ++ (codes "Content-Type: application/json" ++ (crlf ++ codes "Content-Length: "))) size
    (crlf ++ (codes "Connection: close" ++ (crlf ++ crlf))) body
    ∙ sym (regrouped (codes "POST /") name (codes " HTTP/1.0") crlf (codes "Host: 127.0.0.1:") port
    (codes "Content-Type: application/json") (codes "Content-Length: ") size (codes "Connection: close") body)

regrouped_status : (a n b p e t l s c body : List ℕ)
    → (a ++ n ++ b ++ p ++ e) ++ ((t ++ e) ++ (l ++ s ++ e) ++ (c ++ e) ++ ([] ++ e)) ++ body
    ≡ a ++ (n ++ (b ++ (p ++ ((e ++ (t ++ (e ++ l))) ++ (s ++ ((e ++ (c ++ (e ++ e))) ++ body))))))
regrouped_status a n b p e t l s c body = simp append_assoc

regrouped_bare : (a n b p e c : List ℕ)
    → (a ++ n ++ b ++ p ++ e) ++ (c ++ e) ++ ([] ++ e)
    ≡ a ++ (n ++ (b ++ (p ++ (e ++ (c ++ (e ++ e))))))
regrouped_bare a n b p e c = simp append_assoc

pub response_lines : (head status phrase size body : List ℕ)
    → head ≡ codes "HTTP/1.1 " ++ (status ++
    (codes " " ++ (phrase ++
    ((crlf ++ (codes "Content-Type: application/json" ++ (crlf ++ codes "Content-Length: ")))
    ++ (size ++ (crlf ++ (codes "Connection: close" ++ (crlf ++ crlf))))))))
    → head ++ body
    ≡ line (codes "HTTP/1.1 " ++ status ++ codes " " ++ phrase)
    ++ (line (codes "Content-Type: application/json") ++ line (codes "Content-Length: " ++ size)
    ++ line (codes "Connection: close") ++ line []) ++ body
response_lines head status phrase size body is =
    ap (λ (t : List ℕ). t ++ body) is
    ∙ spread (codes "HTTP/1.1 ") status (codes " ") phrase
    (crlf ++ (codes "Content-Type: application/json" ++ (crlf ++ codes "Content-Length: "))) size
    (crlf ++ (codes "Connection: close" ++ (crlf ++ crlf))) body
    ∙ sym (regrouped_status (codes "HTTP/1.1 ") status (codes " ") phrase crlf
    (codes "Content-Type: application/json") (codes "Content-Length: ") size (codes "Connection: close") body)

-- the lines of a head without content
pub bare_lines : (head status phrase : List ℕ)
    → head ≡ codes "HTTP/1.1 " ++ (status ++
    (codes " " ++ (phrase ++ (crlf ++ (codes "Connection: close" ++ (crlf ++ crlf))))))
    → head
    ≡ line (codes "HTTP/1.1 " ++ status ++ codes " " ++ phrase) ++ line (codes "Connection: close") ++ line []
bare_lines head status phrase is =
    is ∙ sym (regrouped_bare (codes "HTTP/1.1 ") status (codes " ") phrase crlf (codes "Connection: close"))
