-- What a table keeps true, where a connection is entered in the next place or in that of another.
use Rattle.std.proofs.Common.{◌≡◌, ◌+◌, ◌*◌, ◌<◌, ◌≤◌, ◌&&◌, ◌++◌, ℕ, Bool, true, false, cond, List, [], ◌∷◌, length}
use Rattle.std.proofs.Common.{set, get_or, map}
use Rattle.std.proofs.Common.{take, drop, Some, None, slice_get, refl, ap, sym, ◌∙◌, arith, subst}
use Rattle.std.proofs.lemmas.List.{length-append, length-take, length-drop, length-map, length-set, map-append}
use Rattle.std.proofs.lemmas.List.{map-set, take_at}
use Rattle.std.proofs.lemmas.Option.{slice_get-map, slice_get_read}
use Rattle.std.specs.Option.{option_map}
use Rattle.rx_model.specs.Names.{Connection}
use Rattle.rx_table.specs.declared.conn.Conn.{Conn}
use Rattle.rx_table.specs.declared.key.Key.{Key}
use Rattle.rx_table.specs.declared.seat.Seat.{Seat}
use Rattle.rx_table.specs.Layout.{joined, name_in, record_of, IsKept, IsIndex}
use Rattle.rx_table.specs.Names.{key_of, same_key, place_under}
use Rattle.rx_table.specs.Records.{ConnRecord, Records, place_of, fresh_record, fresh_seats, on_place, changed_at}
use Rattle.rx_table.specs.Records.{IsDistinct}
use Rattle.rx_table.proofs.JoinedLaws.{joined-push, joined-renew, joined-set, changed_at-same, changed_at-twice}
use Rattle.rx_table.proofs.KeptLaws.{place_is}
use Rattle.rx_table.proofs.PlaceLaws.{place, put-push, put-set, distinct-put}
use Rattle.rx_table.proofs.IndexLaws.{IsAsked, but_past, but_forgotten, indexed-put}

-- the index after it was asked to take the key of a name for a place
pub asked : (index new : List (Key × ℕ)) (key : Key) (y : Connection) (p q : ℕ) (took : Bool) → key ≡ key_of y → p ≡ q
    → (took ≡ true → (k : Key) → place_under new k ≡ cond (same_key key k) (Some p) (place_under index k))
    → (took ≡ false → new ≡ index) → IsAsked index (key_of y) q took new
asked index new key y p q took key_is p_is taken refused =
    record {
      taken = λ e k. taken e k ∙ ap (λ a. cond (same_key a k) (Some p) (place_under index k)) key_is
          ∙ ap (λ n. cond (same_key (key_of y) k) (Some n) (place_under index k)) p_is;
      refused = refused;
    }

-- an index that a key went from
pub less_key : (index less : List (Key × ℕ)) (key other : Key) → key ≡ other
    → ((k : Key) → place_under less k ≡ cond (same_key key k) None (place_under index k))
    → (k : Key) → place_under less k ≡ cond (same_key other k) None (place_under index k)
less_key index less key other is less_is k = less_is k ∙ ap (λ a. cond (same_key a k) None (place_under index k)) is

module _ (cs new_cs : List Conn) (ss new_ss : List Seat) (index new : List (Key × ℕ)) (complete took : Bool) (room : ℕ)
    (c : Conn) (y : Connection) (t : Records) where
  -- a connection is entered in the next place
  pub kept-push : record { room = room; conns = joined cs ss } ≡ t → place_of t y ≡ None
      → IsKept cs ss index complete room → length cs < room → new_cs ≡ cs ++ c ∷ [] → new_ss ≡ ss ++ fresh_seats
      → name_in c ≡ y → IsAsked index (key_of y) (length cs) took new → IsKept new_cs new_ss new (complete && took) room
  kept-push is absent kept less cs_is ss_is name asks =
      let xs = map name_in cs in
      let none : place xs y ≡ None = sym (place_is cs ss room t y is) ∙ absent in
      let ys : map name_in new_cs ≡ xs ++ y ∷ [] =
      ap (map name_in) cs_is ∙ map-append name_in cs (c ∷ []) ∙ ap (λ z. xs ++ z ∷ []) name in
      let at : IsAsked index (key_of y) (length xs) took new =
      subst (λ n. IsAsked index (key_of y) n took new) (sym (length-map cs name_in)) asks in
      record {
        fits = omega (arith, ap length cs_is, length-append cs (c ∷ []));
        narrow = kept.narrow;
        seated = omega (
          arith,
          kept.seated,
          ap length cs_is,
          length-append cs (c ∷ []),
          ap length ss_is,
          length-append ss fresh_seats,
        );
        distinct = subst IsDistinct (sym ys)
            (distinct-put xs (xs ++ y ∷ []) (length xs) y kept.distinct none (put-push xs y));
        indexed = subst (λ zs. IsIndex zs new (complete && took)) (sym ys)
            (indexed-put xs (xs ++ y ∷ []) index new complete took (length xs) y
            (but_past xs index complete kept.indexed) none (put-push xs y) at);
      }

module _ (cs new_cs : List Conn) (ss new_ss : List Seat) (room nonce now : ℕ) (c : Conn) (y : Connection) (t : Records)
  where
    -- the records of a table that a connection is entered in
    pub records-push : record { room = room; conns = joined cs ss } ≡ t → length ss ≡ 4 * length cs
        → new_cs ≡ cs ++ c ∷ [] → new_ss ≡ ss ++ fresh_seats → record_of c fresh_seats ≡ fresh_record y nonce now
        → ◌≡◌ {A = Records} (record { room = room; conns = joined new_cs new_ss })
        (record t { conns = t.conns ++ fresh_record y nonce now ∷ [] })
    records-push is seated cs_is ss_is fresh =
        let conns : joined new_cs new_ss ≡ joined cs ss ++ fresh_record y nonce now ∷ [] =
        ap (λ zs. joined zs new_ss) cs_is ∙ ap (joined (cs ++ c ∷ [])) ss_is
        ∙ joined-push cs ss c fresh_seats seated refl
        ∙ ap (λ r. joined cs ss ++ r ∷ []) fresh in
        ap (λ (rs : List ConnRecord). let r : Records = record { room = room; conns = rs } in r) conns
        ∙ ap (λ (r : Records). let new : Records = record r { conns = r.conns ++ fresh_record y nonce now ∷ [] } in new)
        is

module _ (cs new_cs : List Conn) (ss new_ss : List Seat) (index less new : List (Key × ℕ)) (complete took : Bool)
    (room p : ℕ) (old c : Conn) (y : Connection) (t : Records) where
  -- a connection is entered in the place of another
  pub kept-replace : record { room = room; conns = joined cs ss } ≡ t → place_of t y ≡ None
      → IsKept cs ss index complete room → p < length cs → old ≡ get_or cs p old
      → ((k : Key) → place_under less k ≡ cond (same_key (key_of (name_in old)) k) None (place_under index k))
      → new_cs ≡ set cs p c → length new_ss ≡ length ss → name_in c ≡ y → IsAsked less (key_of y) p took new
      → IsKept new_cs new_ss new (complete && took) room
  kept-replace is absent kept within read less_is cs_is
      size name asks =
      let xs = map name_in cs in
      let none : place xs y ≡ None = sym (place_is cs ss room t y is) ∙ absent in
      let ys : map name_in new_cs ≡ set xs p y =
      ap (map name_in) cs_is ∙ map-set name_in cs p c ∙ ap (set xs p) name in
      let put = put-set xs p y (omega (arith, length-map cs name_in)) in
      let at : slice_get xs p ≡ Some (name_in old) =
      slice_get-map name_in cs p ∙ ap (option_map name_in) (slice_get_read cs (length cs) p old refl within read) in
      record {
        fits = omega (arith, kept.fits, ap length cs_is, length-set cs p c);
        narrow = kept.narrow;
        seated = omega (arith, kept.seated, ap length cs_is, length-set cs p c, size);
        distinct = subst IsDistinct (sym ys) (distinct-put xs (set xs p y) p y kept.distinct none put);
        indexed = subst (λ zs. IsIndex zs new (complete && took)) (sym ys)
            (indexed-put xs (set xs p y) less new complete took p y
            (but_forgotten xs index less complete p (name_in old) kept.indexed kept.distinct at less_is) none put asks);
      }

-- the seats of a place, after they were renewed
abbrev pub renewed : List Seat → ℕ → List Seat
renewed ss first = take first ss ++ (fresh_seats ++ drop (first + 4) ss)

pub length-renewed : (ss : List Seat) (first : ℕ) → first + 4 ≤ length ss → length (renewed ss first) ≡ length ss
length-renewed ss first within =
    simp (length-append, length-take, length-drop) (omega arith)

-- a list of seats that was written to as a slice
pub seats_renewed : (ss seen new : List Seat) (len first : ℕ) → seen ≡ ss → len ≡ length ss → first + 4 ≤ length ss
    → new ≡ renewed seen first → take len (new ++ drop (length new) ss) ≡ renewed ss first
seats_renewed ss seen new len first all size within is =
    let now : new ≡ renewed ss first = is ∙ ap (λ us. renewed us first) all in
    let same : length new ≡ len = ap length now ∙ length-renewed ss first within ∙ sym size in
    take_at new (drop (length new) ss) len same ∙ now

module _ (cs : List Conn) (ss new_ss : List Seat) (room p nonce now : ℕ) (c : Conn) (y : Connection) (t : Records) where
  -- the records of a table in which a connection took the place of another
  pub records-replace : record { room = room; conns = joined cs ss } ≡ t → p * 4 + 4 ≤ length ss
      → new_ss ≡ renewed ss (p * 4) → record_of c fresh_seats ≡ fresh_record y nonce now
      → ◌≡◌ {A = Records} (record { room = room; conns = joined (set cs p c) new_ss })
      (on_place p (λ r. fresh_record y nonce now) t)
  records-replace is within ss_is fresh =
      let first : p * 4 ≡ 4 * p = omega arith in
      let rs = joined cs ss in
      let conns : joined (set cs p c) new_ss ≡ changed_at p (λ r. fresh_record y nonce now) rs =
      joined-set cs new_ss p c
      ∙ ap (λ us. changed_at p (λ r. record_of c r.seats) (joined cs us)) (ss_is ∙ ap (renewed ss) first)
      ∙ ap (changed_at p (λ r. record_of c r.seats)) (joined-renew cs ss p fresh_seats (omega arith) refl)
      ∙ changed_at-twice p (λ r. record_of c r.seats) (λ r. record r { seats = fresh_seats }) rs
      ∙ changed_at-same p (λ r. record_of c fresh_seats) (λ r. fresh_record y nonce now) rs (λ r at. fresh) in
      ap (λ (qs : List ConnRecord). let r : Records = record { room = room; conns = qs } in r) conns
      ∙ ap (on_place p (λ r. fresh_record y nonce now)) is
