-- Connections and seats joined into records: what a change of either does to them.
use Rattle.std.proofs.Common.{◌≡◌, ◌+◌, ◌*◌, ◌/◌, ◌%◌, ◌<◌, ◌≤◌, ℕ, zero, suc, List, [], ◌∷◌, ◌++◌, length, take}
use Rattle.std.proofs.Common.{drop, set}
use Rattle.std.proofs.Common.{map, Some, slice_get, refl, ap, sym, ◌∙◌, arith, get_or, subst}
use Rattle.std.specs.Option.{option_map}
use Rattle.std.proofs.lemmas.List.{drop-drop, drop-set-lt, drop-set-add, take-set-le, take_at, drop_at, length-drop}
use Rattle.std.proofs.lemmas.List.{drop-append-le, take-append-le, nil_from_length, take_all, take-take, drop-take}
use Rattle.std.proofs.lemmas.List.{length-take, map-set, set-get_or}
use Rattle.std.proofs.lemmas.Option.{slice_get_read, same_Some}
use Rattle.rx_table.specs.declared.conn.Conn.{Conn}
use Rattle.rx_table.specs.declared.seat.Seat.{Seat}
use Rattle.rx_table.specs.Layout.{joined, record_of, name_in}
use Rattle.rx_table.specs.Records.{ConnRecord, changed_at}

pub length-joined : (cs : List Conn) (ss : List Seat) → length (joined cs ss) ≡ length cs
length-joined [] ss = refl
length-joined (c ∷ cs) ss = ap suc (length-joined cs (drop 4 ss))

-- the names are those of the connections
pub names-joined : (cs : List Conn) (ss : List Seat) → map (λ r. r.connection) (joined cs ss) ≡ map name_in cs
names-joined [] ss = refl
names-joined (c ∷ cs) ss = ap (λ xs. name_in c ∷ xs) (names-joined cs (drop 4 ss))

-- the four seats of a place
abbrev pub seats_of : List Seat → ℕ → List Seat
seats_of ss place = take 4 (drop (4 * place) ss)

-- a record is a connection with its seats
pub slice_get-joined : (cs : List Conn) (ss : List Seat) (i : ℕ)
    → slice_get (joined cs ss) i ≡ option_map (λ c. record_of c (seats_of ss i)) (slice_get cs i)
slice_get-joined [] ss i = refl
slice_get-joined (c ∷ cs) ss zero = refl
slice_get-joined (c ∷ cs) ss (suc i) =
    slice_get-joined cs (drop 4 ss) i
    ∙ ap (λ us. option_map (λ c. record_of c (take 4 us)) (slice_get cs i))
    (drop-drop (4 * i) 4 ss ∙ ap (λ n. drop n ss) (omega arith))

-- a connection changes
pub joined-set : (cs : List Conn) (ss : List Seat) (i : ℕ) (c : Conn)
    → joined (set cs i c) ss ≡ changed_at i (λ r. record_of c r.seats) (joined cs ss)
joined-set [] ss i c = refl
joined-set (b ∷ cs) ss zero c = refl
joined-set (b ∷ cs) ss (suc i) c = ap (λ rs. record_of b (take 4 ss) ∷ rs) (joined-set cs (drop 4 ss) i c)

-- two changes of a place that agree on what is there
pub changed_at-same : (i : ℕ) (f g : ConnRecord → ConnRecord) (rs : List ConnRecord)
    → ((r : ConnRecord) → slice_get rs i ≡ Some r → f r ≡ g r) → changed_at i f rs ≡ changed_at i g rs
changed_at-same i f g [] same = refl
changed_at-same zero f g (r ∷ rs) same = ap (λ q. q ∷ rs) (same r refl)
changed_at-same (suc i) f g (r ∷ rs) same = ap (λ qs. r ∷ qs) (changed_at-same i f g rs same)

-- a place changes twice
pub changed_at-twice : (i : ℕ) (f g : ConnRecord → ConnRecord) (rs : List ConnRecord)
    → changed_at i f (changed_at i g rs) ≡ changed_at i (λ r. f (g r)) rs
changed_at-twice i f g [] = refl
changed_at-twice zero f g (r ∷ rs) = refl
changed_at-twice (suc i) f g (r ∷ rs) = ap (λ qs. r ∷ qs) (changed_at-twice i f g rs)

-- one of four changes
take-set-lt : (n i : ℕ) (ss : List Seat) (s : Seat) → i < n → take n (set ss i s) ≡ set (take n ss) i s
take-set-lt zero i ss s below = absurd (omega arith)
take-set-lt (suc n) i [] s below = refl
take-set-lt (suc n) zero (x ∷ xs) s below = refl
take-set-lt (suc n) (suc i) (x ∷ xs) s below = ap (λ ys. x ∷ ys) (take-set-lt n i xs s (omega arith))

-- a seat changes
joined-set_seat : (cs : List Conn) (ss : List Seat) (place chan : ℕ) (s : Seat) → chan < 4
    → joined cs (set ss (4 * place + chan) s)
    ≡ changed_at place (λ r. record r { seats = set r.seats chan s }) (joined cs ss)
joined-set_seat [] ss place chan s within = refl
joined-set_seat (c ∷ cs) ss zero chan s within =
    let at : 4 * zero + chan ≡ chan = omega arith in
    ap (λ n. joined (c ∷ cs) (set ss n s)) at
    ∙ ap (λ us. record_of c us ∷ joined cs (drop 4 (set ss chan s))) (take-set-lt 4 chan ss s within)
    ∙ ap (λ us. record_of c (set (take 4 ss) chan s) ∷ joined cs us) (drop-set-lt 4 ss chan s within)
joined-set_seat (c ∷ cs) ss (suc place) chan s within =
    let at : 4 * suc place + chan ≡ 4 + (4 * place + chan) = omega arith in
    ap (λ n. joined (c ∷ cs) (set ss n s)) at
    ∙ ap (λ us. record_of c us ∷ joined cs (drop 4 (set ss (4 + (4 * place + chan)) s)))
    (take-set-le 4 ss (4 + (4 * place + chan)) s (omega arith))
    ∙ ap (λ us. record_of c (take 4 ss) ∷ joined cs us) (drop-set-add 4 ss (4 * place + chan) s)
    ∙ ap (λ rs. record_of c (take 4 ss) ∷ rs) (joined-set_seat cs (drop 4 ss) place chan s within)

-- the seat of a key changes
pub joined-set_key : (cs : List Conn) (ss : List Seat) (key : ℕ) (s : Seat)
    → joined cs (set ss key s) ≡ changed_at (key / 4) (λ r. record r { seats = set r.seats (key % 4) s }) (joined cs ss)
joined-set_key cs ss key s =
    let at : key ≡ 4 * (key / 4) + key % 4 = omega arith in
    ap (λ n. joined cs (set ss n s)) at ∙ joined-set_seat cs ss (key / 4) (key % 4) s (omega arith)

-- a connection comes to the end with its seats
pub joined-push : (cs : List Conn) (ss : List Seat) (c : Conn) (four : List Seat) → length ss ≡ 4 * length cs
    → length four ≡ 4 → joined (cs ++ c ∷ []) (ss ++ four) ≡ joined cs ss ++ record_of c four ∷ []
joined-push [] ss c four none size =
    ap (λ us. record_of c (take 4 (us ++ four)) ∷ []) (nil_from_length ss none)
    ∙ ap (λ us. record_of c us ∷ []) (take_all 4 four (omega arith))
joined-push (b ∷ cs) ss c four sizes size =
    ap (λ us. record_of b us ∷ joined (cs ++ c ∷ []) (drop 4 (ss ++ four))) (take-append-le 4 ss four (omega arith))
    ∙ ap (λ us. record_of b (take 4 ss) ∷ joined (cs ++ c ∷ []) us) (drop-append-le 4 ss four (omega arith))
    ∙ ap (λ rs. record_of b (take 4 ss) ∷ rs)
    (joined-push cs (drop 4 ss) c four (length-drop 4 ss ∙ omega arith) size)

-- all seats of a place change
pub joined-renew : (cs : List Conn) (ss : List Seat) (place : ℕ) (four : List Seat) → 4 * place + 4 ≤ length ss
    → length four ≡ 4
    → joined cs (take (4 * place) ss ++ (four ++ drop (4 * place + 4) ss))
    ≡ changed_at place (λ r. record r { seats = four }) (joined cs ss)
joined-renew [] ss place four within size = refl
joined-renew (c ∷ cs) ss zero four within size =
    ap (λ us. record_of c us ∷ joined cs (drop 4 (four ++ drop 4 ss))) (take_at four (drop 4 ss) 4 size)
    ∙ ap (λ us. record_of c four ∷ joined cs us) (drop_at four (drop 4 ss) 4 size)
joined-renew (c ∷ cs) ss (suc place) four within size =
    let at : 4 * suc place ≡ 4 + 4 * place = omega arith in
    let front = take (4 + 4 * place) ss in
    let rest = four ++ drop (4 + 4 * place + 4) ss in
    let long : 4 ≤ length front = simp length-take (omega arith) in
    ap (λ n. joined (c ∷ cs) (take n ss ++ (four ++ drop (n + 4) ss))) at
    ∙ ap (λ us. record_of c us ∷ joined cs (drop 4 (front ++ rest)))
    (take-append-le 4 front rest long ∙ take-take 4 (4 + 4 * place) ss (omega arith))
    ∙ ap (λ us. record_of c (take 4 ss) ∷ joined cs us)
    (drop-append-le 4 front rest long ∙ ap (λ us. us ++ rest) (drop-take 4 (4 * place) ss))
    ∙ ap (λ us. record_of c (take 4 ss) ∷ joined cs (take (4 * place) (drop 4 ss) ++ (four ++ us)))
    (ap (λ n. drop n ss) (omega arith) ∙ sym (drop-drop (4 * place + 4) 4 ss))
    ∙ ap (λ rs. record_of c (take 4 ss) ∷ rs)
    (joined-renew cs (drop 4 ss) place four (simp length-drop (omega arith)) size)

-- what a connection at its place is read as
read_at : (cs : List Conn) (i : ℕ) (c : Conn) → i < length cs → c ≡ get_or cs i c → slice_get cs i ≡ Some c
read_at cs i c within read = slice_get_read cs (length cs) i c refl within read

-- the record of a place, by its connection
pub record-joined : (cs : List Conn) (ss : List Seat) (i : ℕ) (c : Conn) → i < length cs → c ≡ get_or cs i c
    → slice_get (joined cs ss) i ≡ Some (record_of c (seats_of ss i))
record-joined cs ss i c within read =
    slice_get-joined cs ss i ∙ ap (option_map (λ b. record_of b (seats_of ss i))) (read_at cs i c within read)

-- a connection changes, and so its record
pub joined-changed : (cs : List Conn) (ss : List Seat) (i : ℕ) (c new : Conn) (f : ConnRecord → ConnRecord)
    → i < length cs → c ≡ get_or cs i c → ((us : List Seat) → record_of new us ≡ f (record_of c us))
    → joined (set cs i new) ss ≡ changed_at i f (joined cs ss)
joined-changed cs ss i c new f within read same =
    joined-set cs ss i new
    ∙ changed_at-same i (λ r. record_of new r.seats) f (joined cs ss)
    (λ r at.
    let is : record_of c (seats_of ss i) ≡ r = same_Some _ _ (sym (record-joined cs ss i c within read) ∙ at) in
    subst (λ q. record_of new q.seats ≡ f q) is (same (seats_of ss i)))

-- a connection that keeps its name leaves the names
pub names-set : (cs : List Conn) (i : ℕ) (c new : Conn) → c ≡ get_or cs i c → name_in new ≡ name_in c
    → map name_in (set cs i new) ≡ map name_in cs
names-set cs i c new read same =
    map-set name_in cs i new ∙ ap (λ x. set (map name_in cs) i x) same ∙ sym (map-set name_in cs i c)
    ∙ ap (λ b. map name_in (set cs i b)) read ∙ ap (map name_in) (set-get_or cs i c)
