-- What a table keeps true, where one connection changes and keeps its name, and how its fields give its records.
use Rattle.std.proofs.Common.{◌≡◌, ◌<◌, ◌≤◌, ◌^◌, ℕ, Bool, true, position, Option, None, List, length, set, get_or}
use Rattle.std.proofs.Common.{map, Some, ap, sym, ◌∙◌, arith, slice_get, subst}
use Rattle.std.specs.Option.{IsSomeAnd, option_map}
use Rattle.std.proofs.lemmas.List.{length-set}
use Rattle.std.proofs.lemmas.List.{length-map}
use Rattle.std.proofs.lemmas.Option.{slice_get-map, slice_get_within}
use Rattle.rx_model.specs.Names.{Connection, same_connection}
use Rattle.rx_table.specs.declared.conn.Conn.{Conn}
use Rattle.rx_table.specs.declared.key.Key.{Key}
use Rattle.rx_table.specs.declared.seat.Seat.{Seat}
use Rattle.rx_table.specs.Layout.{joined, name_in, record_of, IsKept, IsIndex}
use Rattle.rx_table.specs.Names.{key_of, place_under}
use Rattle.rx_table.specs.Records.{ConnRecord, Records, names, place_of, record_at, on_place, IsDistinct}
use Rattle.rx_table.proofs.IndexLaws.{index_finds, index_lacks}
use Rattle.rx_table.proofs.PlaceLaws.{place, position-map, is_found, is_there}
use Rattle.rx_table.proofs.JoinedLaws.{length-joined, names-joined, names-set, joined-changed, record-joined, seats_of}

-- how many records there are
pub count_is : (cs : List Conn) (ss : List Seat) (room : ℕ) (t : Records)
    → record { room = room; conns = joined cs ss } ≡ t → length t.conns ≡ length cs
count_is cs ss room t is = ap (λ r. length r.conns) (sym is) ∙ length-joined cs ss

-- a connection that keeps its name leaves what is kept
pub kept-set : (cs : List Conn) (ss : List Seat) (index : List (Key × ℕ)) (complete : Bool) (room i : ℕ) (c new : Conn)
    → c ≡ get_or cs i c → name_in new ≡ name_in c → IsKept cs ss index complete room
    → IsKept (set cs i new) ss index complete room
kept-set cs ss index complete room i c new read same kept =
    let names : map name_in cs ≡ map name_in (set cs i new) = sym (names-set cs i c new read same) in
    let size = length-set cs i new in
    record {
      fits = omega (arith, kept.fits, size);
      narrow = kept.narrow;
      seated = omega (arith, kept.seated, size);
      distinct = subst IsDistinct names kept.distinct;
      indexed = subst (λ xs. IsIndex xs index complete) names kept.indexed;
    }

-- a place is within the list
pub within_list : (cs : List Conn) (ss : List Seat) (room i : ℕ) (t : Records)
    → record { room = room; conns = joined cs ss } ≡ t → i < length t.conns → i < length cs
within_list cs ss room i t is within = let e = count_is cs ss room t is in omega (arith, e)

-- a connection changes, and so the record of its place
pub place-set : (cs : List Conn) (ss : List Seat) (room i : ℕ) (c new : Conn) (f : ConnRecord → ConnRecord)
    (t : Records)
    → record { room = room; conns = joined cs ss } ≡ t → i < length t.conns → c ≡ get_or cs i c
    → ((us : List Seat) → record_of new us ≡ f (record_of c us))
    → ◌≡◌ {A = Records} (record { room = room; conns = joined (set cs i new) ss }) (on_place i f t)
place-set cs ss room i c new f t is within read same =
    ap (λ (rs : List ConnRecord). let r : Records = record { room = room; conns = rs } in r)
    (joined-changed cs ss i c new f (within_list cs ss room i t is within) read same)
    ∙ ap (on_place i f) is

-- the record of a place is that of its connection
pub record_is : (cs : List Conn) (ss : List Seat) (room i : ℕ) (c : Conn) (t : Records)
    → record { room = room; conns = joined cs ss } ≡ t → i < length t.conns → c ≡ get_or cs i c
    → record_at t i ≡ Some (record_of c (seats_of ss i))
record_is cs ss room i c t is within read =
    ap (λ (r : Records). record_at r i) (sym is)
    ∙ record-joined cs ss i c (within_list cs ss room i t is within) read

-- what a clause says of the record of a place, by its connection
pub on_record : (cs : List Conn) (ss : List Seat) (room i : ℕ) (c : Conn) (t : Records) (P : ConnRecord → Type 0)
    → record { room = room; conns = joined cs ss } ≡ t → i < length t.conns → c ≡ get_or cs i c
    → P (record_of c (seats_of ss i)) → IsSomeAnd (record_at t i) P
on_record cs ss room i c t P is within read p =
    subst (λ o. IsSomeAnd o P) (sym (record_is cs ss room i c t is within read)) p

-- the names of a table
pub names_is : (cs : List Conn) (ss : List Seat) (room : ℕ) (t : Records)
    → record { room = room; conns = joined cs ss } ≡ t → names t ≡ map name_in cs
names_is cs ss room t is = ap names (sym is) ∙ names-joined cs ss

-- the place of a connection
pub place_is : (cs : List Conn) (ss : List Seat) (room : ℕ) (t : Records) (x : Connection)
    → record { room = room; conns = joined cs ss } ≡ t → place_of t x ≡ place (map name_in cs) x
place_is cs ss room t x is = ap (λ xs. place xs x) (names_is cs ss room t is)

-- the same, by going through the list
pub search_is : (cs seen : List Conn) (ss : List Seat) (room : ℕ) (t : Records) (x : Connection) (o : Option ℕ)
    → record { room = room; conns = joined cs ss } ≡ t → seen ≡ cs
    → position (λ c. same_connection (name_in c) x) seen ≡ o → o ≡ place_of t x
search_is cs seen ss room t x o is all found =
    sym found ∙ ap (position (λ c. same_connection (name_in c) x)) all
    ∙ sym (position-map name_in (λ y. same_connection y x) cs) ∙ sym (place_is cs ss room t x is)

-- a place that is found fits
pub place_fits : (cs seen : List Conn) (x : Connection) (room p : ℕ) → length cs ≤ room → room < 2 ^ 32 → seen ≡ cs
    → position (λ c. same_connection (name_in c) x) seen ≡ Some p → p < 2 ^ 32
place_fits cs seen x room p fits narrow all found =
    let at = position-map name_in (λ y. same_connection y x) cs
    ∙ ap (position (λ c. same_connection (name_in c) x)) (sym all) ∙ found in
    let there = is_there (map name_in cs) x p at in
    let within = slice_get_within (map name_in cs) p x there in
    omega (arith, within, length-map cs name_in)

-- where the index has a connection, that is its place
pub found_is : (cs : List Conn) (ss : List Seat) (index : List (Key × ℕ)) (complete : Bool) (room p : ℕ) (t : Records)
    (x : Connection) → record { room = room; conns = joined cs ss } ≡ t → IsKept cs ss index complete room
    → place_under index (key_of x) ≡ Some p → Some p ≡ place_of t x
found_is cs ss index complete room p t x is kept found =
    sym (place_is cs ss room t x is ∙ index_finds (map name_in cs) index complete x p kept.indexed kept.distinct found)

module _ (cs seen : List Conn) (ss : List Seat) (index : List (Key × ℕ)) (complete : Bool) (room p : ℕ) (t : Records)
    (x : Connection) where
  -- where it stands is its place
  pub stands_is : record { room = room; conns = joined cs ss } ≡ t → IsKept cs ss index complete room → seen ≡ cs
      → option_map name_in (slice_get seen p) ≡ Some x → Some p ≡ place_of t x
  stands_is is kept all at =
      let there = slice_get-map name_in cs p ∙ ap (λ xs. option_map name_in (slice_get xs p)) (sym all) ∙ at in
      sym (place_is cs ss room t x is ∙ is_found (map name_in cs) x p kept.distinct there)

-- where a complete index has none, none is there
pub lacked_is : (cs : List Conn) (ss : List Seat) (index : List (Key × ℕ)) (complete : Bool) (room : ℕ) (t : Records)
    (x : Connection) → record { room = room; conns = joined cs ss } ≡ t → IsKept cs ss index complete room
    → complete ≡ true → place_under index (key_of x) ≡ None → None ≡ place_of t x
lacked_is cs ss index complete room t x is kept whole lacks =
    sym (place_is cs ss room t x is ∙ index_lacks (map name_in cs) index complete x kept.indexed whole lacks)

-- names are distinct
pub distinct_is : (cs : List Conn) (ss : List Seat) (index : List (Key × ℕ)) (complete : Bool) (room : ℕ) (t : Records)
    → record { room = room; conns = joined cs ss } ≡ t → IsKept cs ss index complete room → IsDistinct (names t)
distinct_is cs ss index complete room t is kept = subst IsDistinct (sym (names_is cs ss room t is)) kept.distinct

-- what is found is there
pub found_within : (t : Records) (x : Connection) (p : ℕ) → place_of t x ≡ Some p → p < length t.conns
found_within t x p found =
    let within = slice_get_within (names t) p x (is_there (names t) x p found) in
    omega (arith, within, length-map t.conns (λ r. r.connection))
