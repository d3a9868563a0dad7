-- The seat of a key, among the seats of all places.
use Rattle.std.proofs.Common.{◌≡◌, ◌+◌, ◌*◌, ◌/◌, ◌%◌, ◌<◌, ◌≤◌, inl, inr, ℕ, List, length, drop, set, get_or, Some}
use Rattle.std.proofs.Common.{slice_get, ap, sym, ◌∙◌, arith, option_and_then}
use Rattle.std.proofs.lemmas.List.{get_or-take, get_or-drop, length-take, length-drop}
use Rattle.std.proofs.lemmas.Option.{slice_get_read, slice_get_cases}
use Rattle.rx_table.specs.declared.conn.Conn.{Conn}
use Rattle.rx_table.specs.declared.seat.Seat.{Seat}
use Rattle.rx_table.specs.Layout.{joined}
use Rattle.rx_table.specs.Records.{ConnRecord, Records, seat_at, with_seat}
use Rattle.rx_table.proofs.JoinedLaws.{joined-set_key, seats_of}
use Rattle.rx_table.proofs.KeptLaws.{within_list, record_is}

-- a key is within the seats
pub within_seats : (cs : List Conn) (ss : List Seat) (room key : ℕ) (t : Records)
    → record { room = room; conns = joined cs ss } ≡ t → length ss ≡ 4 * length cs → key / 4 < length t.conns
    → key < length ss
within_seats cs ss room key t is seated there =
    let within = within_list cs ss room (key / 4) t is there in
    omega (arith, within, seated)

-- a seat is among the four of its place
slice_get-seats_of : (ss : List Seat) (key : ℕ) (s : Seat) → key / 4 * 4 + 4 ≤ length ss → s ≡ get_or ss key s
    → slice_get (seats_of ss (key / 4)) (key % 4) ≡ Some s
slice_get-seats_of ss key s within read =
    let at : 4 * (key / 4) + key % 4 ≡ key = omega arith in
    let four : 4 ≡ length (seats_of ss (key / 4)) = simp (length-take, length-drop) (omega arith) in
    slice_get_read (seats_of ss (key / 4)) 4 (key % 4) s four (omega arith)
    (read ∙ ap (λ n. get_or ss n s) (sym at) ∙ sym (get_or-drop (4 * (key / 4)) ss (key % 4) s)
    ∙ sym (get_or-take 4 (drop (4 * (key / 4)) ss) (key % 4) s (omega arith)))

-- the seat of a key
pub seat_is : (cs : List Conn) (ss : List Seat) (room key : ℕ) (s : Seat) (t : Records)
    → record { room = room; conns = joined cs ss } ≡ t → length ss ≡ 4 * length cs → key / 4 < length t.conns
    → s ≡ get_or ss key s → seat_at t key ≡ Some s
seat_is cs ss room key s t is seated there read =
    let within = within_list cs ss room (key / 4) t is there in
    elim (slice_get_cases cs (key / 4)).1 [
      | inl found ↦
          ap (option_and_then (λ (r : ConnRecord). slice_get r.seats (key % 4)))
          (record_is cs ss room (key / 4) found.0 t is there (sym found.3))
          ∙ slice_get-seats_of ss key s (omega arith) read
      | inr past ↦ absurd (omega (arith, past.0, within))
    ]

-- a seat changes
pub seat-set : (cs : List Conn) (ss : List Seat) (room key : ℕ) (s : Seat) (t : Records)
    → record { room = room; conns = joined cs ss } ≡ t
    → ◌≡◌ {A = Records} (record { room = room; conns = joined cs (set ss key s) }) (with_seat t key s)
seat-set cs ss room key s t is =
    ap (λ (rs : List ConnRecord). let r : Records = record { room = room; conns = rs } in r)
    (joined-set_key cs ss key s)
    ∙ ap (λ r. with_seat r key s) is
