-- Reading undoes writing, and writing undoes reading.
use Rattle.std.proofs.Common.{◌≡◌, ℕ, suc, ◌+◌, List, [], ◌∷◌, ◌++◌, length, Bool, true, false, cond, eqb, ap, sym, ◌∙◌, refl, subst, arith, append_assoc, append-nil, inl, inr}
use Rattle.std.specs.Prelude.{Option, Some, None, Result, Ok, Err}
use Rattle.std.specs.List.{AllByRecursion}
use Rattle.std.proofs.lemmas.Bool.Decides.{eqb_tells}
use Rattle.fh_exprs.specs.declared.fault.ExprFault.{ExprFault}
use Rattle.fh_exprs.specs.declared.fault.ExprFault.TheVariants.{OpenBrace}
use Rattle.fh_exprs.specs.declared.form.Naming.{Naming}
use Rattle.fh_exprs.specs.declared.form.Naming.TheVariants.{Free}
use Rattle.fh_exprs.specs.Layout.{Spot, Layout}
use Rattle.fh_exprs.specs.Form.{Standing, outside, behind_close, inside, read_on, reading, reading_of, blank, with_plain, with_name, name_fault, unless, is_brace, open_brace, close_brace}
use Rattle.fh_exprs.specs.Written.{doubled, written_spots, written, IsName, HasNames}
use Rattle.fh_exprs.proofs.Elements.{doubled_open, doubled_close, named, at_place, at_end}

doubled_cons : (v : Bool) (b : ℕ) (whole front back : List ℕ) → whole ≡ front ++ back
    → cond v (b ∷ (b ∷ whole)) (b ∷ whole) ≡ cond v (b ∷ (b ∷ front)) (b ∷ front) ++ back
doubled_cons true b whole front back e = ap (λ r. b ∷ (b ∷ r)) e
doubled_cons false b whole front back e = ap (λ r. b ∷ r) e

doubled-append : (s t : List ℕ) → doubled (s ++ t) ≡ doubled s ++ doubled t
doubled-append [] t = refl
doubled-append (b ∷ s) t = doubled_cons (is_brace b) b (doubled (s ++ t)) (doubled s) (doubled t) (doubled-append s t)

written-plain : (spots : List Spot) (last text : List ℕ)
    → written_spots spots (last ++ text) ≡ written_spots spots last ++ doubled text
written-plain [] last text = doubled-append last text
written-plain (spot ∷ spots) last text =
    ap (λ r. doubled spot.0 ++ (open_brace ∷ (spot.1 ++ (close_brace ∷ r)))) (written-plain spots last text)
    ∙ ap (λ r. doubled spot.0 ++ (open_brace ∷ r))
    (sym (append_assoc spot.1 (close_brace ∷ written_spots spots last) (doubled text)))
    ∙ sym (append_assoc (doubled spot.0) (open_brace ∷ (spot.1 ++ (close_brace ∷ written_spots spots last)))
    (doubled text))

written-name : (spots : List Spot) (last name : List ℕ)
    → written_spots (spots ++ (last, name) ∷ []) [] ≡ written_spots spots last
    ++ (open_brace ∷ (name ++ (close_brace ∷ [])))
written-name [] last name = refl
written-name (spot ∷ spots) last name =
    let more = open_brace ∷ (name ++ (close_brace ∷ [])) in
    ap (λ r. doubled spot.0 ++ (open_brace ∷ (spot.1 ++ (close_brace ∷ r)))) (written-name spots last name)
    ∙ ap (λ r. doubled spot.0 ++ (open_brace ∷ r))
    (sym (append_assoc spot.1 (close_brace ∷ written_spots spots last) more))
    ∙ sym (append_assoc (doubled spot.0) (open_brace ∷ (spot.1 ++ (close_brace ∷ written_spots spots last))) more)

-- what was read up to where the reading stands
abbrev pub so_far : Layout → Standing → List ℕ
so_far layout (outside at) = written layout
so_far layout (behind_close at) = written layout ++ close_brace ∷ []
so_far layout (inside at name) = written layout ++ open_brace ∷ name

unless-ok : (fault : Option ExprFault) (given : Result Layout ExprFault) (layout : Layout)
    → unless fault given ≡ Ok layout → given ≡ Ok layout
unless-ok None given layout h = h
unless-ok (Some fault) given layout h = cc

-- a text that is read is the writing of its layout
pub written_back : (naming : Naming) (layout : Layout) (standing : Standing) (text : List ℕ) (final : Layout)
    → read_on naming layout standing text ≡ Ok final → written final ≡ so_far layout standing ++ text
unfolding read_on
written_back naming layout (outside at) [] final h =
    let same : layout ≡ final = cc in ap written (sym same) ∙ sym (append-nil (written layout))
written_back naming layout (outside at) (b ∷ text) final h =
    elim (eqb_tells b open_brace) [
      | inl open' ↦ written_back naming layout (inside at []) text final (rw open'.0 at h)
          ∙ append_assoc (written layout) (open_brace ∷ []) text ∙ ap (λ c. written layout ++ c ∷ text) (sym open'.1)
      | inr other ↦ (elim (eqb_tells b close_brace) [
        | inl close ↦ written_back naming layout (behind_close at) text final (rw (other.0, close.0) at h)
            ∙ append_assoc (written layout) (close_brace ∷ []) text ∙ ap (λ c. written layout ++ c ∷ text) (sym close.1)
        | inr plain ↦ written_back naming (with_plain (b ∷ []) layout) (outside (at + 1)) text final
            (rw (other.0, plain.0) at h)
            ∙ ap (λ w. w ++ text) (written-plain layout.spots layout.last (b ∷ []))
            ∙ ap (λ w. (written layout ++ w) ++ text)
            (let one : doubled (b ∷ []) ≡ b ∷ [] = rw (other.0, plain.0) refl in one)
            ∙ append_assoc (written layout) (b ∷ []) text
      ])
    ]
written_back naming layout (behind_close at) [] final h = cc
written_back naming layout (behind_close at) (b ∷ text) final h =
    elim (eqb_tells b close_brace) [
      | inl close ↦ written_back naming (with_plain (close_brace ∷ []) layout) (outside (at + 2)) text final
          (rw close.0 at h)
          ∙ ap (λ w. w ++ text) (written-plain layout.spots layout.last (close_brace ∷ []))
          ∙ append_assoc (written layout) (close_brace ∷ (close_brace ∷ [])) text
          ∙ ap (λ c. written layout ++ close_brace ∷ (c ∷ text)) (sym close.1)
          ∙ sym (append_assoc (written layout) (close_brace ∷ []) (b ∷ text))
      | inr other ↦ (let no : Err (OpenBrace at) ≡ Ok final = rw other.0 at h in cc)
    ]
written_back naming layout (inside at []) [] final h = cc
written_back naming layout (inside at []) (b ∷ text) final h =
    elim (eqb_tells b open_brace) [
      | inl open' ↦ written_back naming (with_plain (open_brace ∷ []) layout) (outside (at + 2)) text final
          (rw open'.0 at h)
          ∙ ap (λ w. w ++ text) (written-plain layout.spots layout.last (open_brace ∷ []))
          ∙ append_assoc (written layout) (open_brace ∷ (open_brace ∷ [])) text
          ∙ ap (λ c. written layout ++ open_brace ∷ (c ∷ text)) (sym open'.1)
          ∙ sym (append_assoc (written layout) (open_brace ∷ []) (b ∷ text))
      | inr other ↦ (elim (eqb_tells b close_brace) [
        | inl close ↦ (let no : Err (OpenBrace at) ≡ Ok final = rw (other.0, close.0) at h in cc)
        | inr plain ↦ written_back naming layout (inside at (b ∷ [])) text final (rw (other.0, plain.0) at h)
            ∙ append_assoc (written layout) (open_brace ∷ (b ∷ [])) text
            ∙ sym (append_assoc (written layout) (open_brace ∷ []) (b ∷ text))
      ])
    ]
written_back naming layout (inside at (n ∷ name)) [] final h = cc
written_back naming layout (inside at (n ∷ name)) (b ∷ text) final h =
    elim (eqb_tells b open_brace) [
      | inl open' ↦ (let no : Err (OpenBrace at) ≡ Ok final = rw open'.0 at h in cc)
      | inr other ↦ (elim (eqb_tells b close_brace) [
        | inl close ↦
            (let given : unless (name_fault naming layout at (n ∷ name))
            (read_on naming (with_name (n ∷ name) layout) (outside (at + (length (n ∷ name) + 2))) text) ≡ Ok final =
            rw (other.0, close.0) at h in
            written_back naming (with_name (n ∷ name) layout) (outside (at + (length (n ∷ name) + 2))) text final
            (unless-ok (name_fault naming layout at (n ∷ name)) _ final given)
            ∙ ap (λ w. w ++ text) (written-name layout.spots layout.last (n ∷ name))
            ∙ append_assoc (written layout) (open_brace ∷ ((n ∷ name) ++ (close_brace ∷ []))) text
            ∙ ap (λ r. written layout ++ open_brace ∷ r) (append_assoc (n ∷ name) (close_brace ∷ []) text)
            ∙ ap (λ c. written layout ++ open_brace ∷ ((n ∷ name) ++ c ∷ text)) (sym close.1)
            ∙ sym (append_assoc (written layout) (open_brace ∷ (n ∷ name)) (b ∷ text)))
        | inr plain ↦ written_back naming layout (inside at (n ∷ name ++ b ∷ [])) text final
            (rw (other.0, plain.0) at h)
            ∙ append_assoc (written layout) (open_brace ∷ (n ∷ (name ++ b ∷ []))) text
            ∙ ap (λ r. written layout ++ open_brace ∷ (n ∷ r)) (append_assoc name (b ∷ []) text)
            ∙ sym (append_assoc (written layout) (open_brace ∷ (n ∷ name)) (b ∷ text))
      ])
    ]

-- doubled braces and plain bytes are read as the plain text
after_byte : (naming : Naming) (layout : Layout) (m n b : ℕ) (plain rest : List ℕ) → m ≡ n
    → read_on naming (with_plain plain (with_plain (b ∷ []) layout)) (outside m) rest
    ≡ read_on naming (with_plain (b ∷ plain) layout) (outside n) rest
after_byte naming layout m n b plain rest e =
    ap (λ last. read_on naming (record { spots = layout.spots; last = last }) (outside m) rest)
    (append_assoc layout.last (b ∷ []) plain)
    ∙ at_place naming (with_plain (b ∷ plain) layout) rest m n e

plain_byte : (naming : Naming) (layout : Layout) (at b : ℕ) (rest : List ℕ) → eqb b open_brace ≡ false
    → eqb b close_brace ≡ false
    → read_on naming layout (outside at) (b ∷ rest) ≡ read_on naming (with_plain (b ∷ []) layout) (outside (at + 1))
    rest
unfolding read_on
plain_byte naming layout at b rest no_open no_close = rw (no_open, no_close) refl

abbrev ReadsPlain : Naming → Layout → ℕ → List ℕ → List ℕ → Type 0
ReadsPlain naming layout at plain rest = read_on naming layout (outside at) (doubled plain ++ rest)
    ≡ read_on naming (with_plain plain layout) (outside (at + length (doubled plain))) rest

doubled_run : (naming : Naming) (layout : Layout) (at : ℕ) (plain rest : List ℕ)
    → ReadsPlain naming layout at plain rest
doubled_run naming layout at [] rest =
    ap (λ last. read_on naming (record { spots = layout.spots; last = last }) (outside at) rest)
    (sym (append-nil layout.last))
    ∙ at_place naming (with_plain [] layout) rest at (at + 0) (omega arith)
doubled_run naming layout at (b ∷ plain) rest =
    elim (eqb_tells b open_brace) [
      | inl open' ↦ subst (λ (c : ℕ). ReadsPlain naming layout at (c ∷ plain) rest) (sym open'.1)
          (doubled_open naming layout at (doubled plain ++ rest)
          ∙ doubled_run naming (with_plain (open_brace ∷ []) layout) (at + 2) plain rest
          ∙ after_byte naming layout ((at + 2) + length (doubled plain)) (at + suc (suc (length (doubled plain))))
          open_brace plain rest (omega arith))
      | inr other ↦ (elim (eqb_tells b close_brace) [
        | inl close ↦ subst (λ (c : ℕ). ReadsPlain naming layout at (c ∷ plain) rest) (sym close.1)
            (doubled_close naming layout at (doubled plain ++ rest)
            ∙ doubled_run naming (with_plain (close_brace ∷ []) layout) (at + 2) plain rest
            ∙ after_byte naming layout ((at + 2) + length (doubled plain)) (at + suc (suc (length (doubled plain))))
            close_brace plain rest (omega arith))
        | inr single ↦ rw (other.0, single.0)
            (plain_byte naming layout at b (doubled plain ++ rest) other.0 single.0
            ∙ doubled_run naming (with_plain (b ∷ []) layout) (at + 1) plain rest
            ∙ after_byte naming layout ((at + 1) + length (doubled plain)) (at + suc (length (doubled plain)))
            b plain rest (omega arith))
      ])
    ]

spots_read : (done : List Spot) (at : ℕ) (spots : List Spot) (last : List ℕ)
    → AllByRecursion (λ (spot : Spot). IsName spot.1) spots
    → read_on Free (record { spots = done; last = [] }) (outside at) (written_spots spots last)
    ≡ Ok (record { spots = done ++ spots; last = last })
spots_read done at [] last names =
    ap (λ t. read_on Free (record { spots = done; last = [] }) (outside at) t) (sym (append-nil (doubled last)))
    ∙ doubled_run Free (record { spots = done; last = [] }) at last []
    ∙ at_end Free (record { spots = done; last = last }) (at + length (doubled last)) [] refl
    ∙ ap (λ (ss : List Spot). Ok (record { spots = ss; last = last })) (sym (append-nil done))
spots_read done at (spot ∷ spots) last names =
    let behind = written_spots spots last in
    let at' = at + length (doubled spot.0) in
    doubled_run Free (record { spots = done; last = [] }) at spot.0 (open_brace ∷ (spot.1 ++ (close_brace ∷ behind)))
    ∙ named Free (record { spots = done; last = spot.0 }) at' spot.1 behind names.0.filled names.0.plain
    ∙ spots_read (done ++ (spot.0, spot.1) ∷ []) (at' + (length spot.1 + 2)) spots last names.1
    ∙ ap (λ (ss : List Spot). Ok (record { spots = ss; last = last })) (append_assoc done (spot ∷ []) spots)

-- what is written with names of their form is read so
pub read_back : (layout : Layout) → HasNames layout → reading Free (written layout) ≡ Ok layout
read_back layout names = spots_read [] 0 layout.spots layout.last names

pub written_again : (naming : Naming) (text : List ℕ) (layout : Layout) → reading naming text ≡ Ok layout
    → text ≡ written layout
written_again naming text layout h = sym (written_back naming blank (outside 0) text layout h)

pub written_of : (naming : Naming) (given : Result (List ℕ) ExprFault) (layout : Layout)
    → reading_of naming given ≡ Ok layout → given ≡ Ok (written layout)
written_of naming (Ok text) layout h = ap Ok (written_again naming text layout h)
written_of naming (Err fault) layout h = cc

pub reading_of_written : (given : Result (List ℕ) ExprFault) (layout : Layout) → HasNames layout
    → given ≡ Ok (written layout)
    → reading_of Free given ≡ Ok layout
reading_of_written given layout names e = ap (reading_of Free) e ∙ read_back layout names
