-- Pieces are hard acknowledged: what is left stands for what is left of the stream.
use Rattle.std.proofs.Common.{◌≡◌, ◌<◌, ◌≤◌, ◌+◌, ◌-◌, cond, nat_lt, min, map, Bool, true, false, ℕ, suc, zero}
use Rattle.std.proofs.Common.{List, []}
use Rattle.std.proofs.Common.{◌∷◌, length, get_or, take, drop, Option, None, refl, sym, ap, subst, ◌∙◌, arith}
use Rattle.std.proofs.lemmas.Bool.Decides.{nat_tests}
use Rattle.std.proofs.lemmas.List.{length-drop, drop-map, get_or-drop, length-take-le}
use Rattle.rx_model.specs.declared.wire.TheConstants.{MAX_WINDOW}
use Rattle.rx_rules.specs.Sent.{Sent, pieces_by, counting_by, payload_at, last_giving, is_marked, is_acked, given_of}
use Rattle.rx_rules.specs.Sent.{with_window, after_ack, after_all, newly_of}
use Rattle.rx_rules.specs.Sent as rules
use Rattle.rx_pool.specs.Pool.{Slots}
use Rattle.rx_sendwin.specs.declared.piece.HeldPiece.{HeldPiece}
use Rattle.rx_sendwin.specs.Marks.{is_acked_by, flight_by, newly_by, highest_by, trip_at, is_valid_ack, leading_marks}
use Rattle.rx_sendwin.specs.Pieces.{seen_at, payload_in, giving_in, giving_at, last_size, AllSized, AllTimed}
use Rattle.rx_sendwin.specs.Window.{SendWindow, StandsSent, IsTied}
use Rattle.rx_sendwin.proofs.Counts.{newly_same, highest_same}
use Rattle.rx_sendwin.proofs.Acks.{marked_at, past_quiet, kept_alike}
use Rattle.rx_sendwin.proofs.Counts.{known_alike}
use Rattle.rx_sendwin.proofs.Acks.{makes_sense}
use Rattle.rx_sendwin.proofs.Standing.{known_of, known_is, counting_most}

pub sized_drop : (n : ℕ) (hs : List HeldPiece) → AllSized hs → AllSized (drop n hs)
sized_drop zero hs z = z
sized_drop (suc n) [] z = z
sized_drop (suc n) (h ∷ hs) z = sized_drop n hs z.1

pub timed_drop : (n : ℕ) (hs : List HeldPiece) → AllTimed hs → AllTimed (drop n hs)
timed_drop zero hs t = t
timed_drop (suc n) [] t = t
timed_drop (suc n) (h ∷ hs) t = timed_drop n hs t.1

dropped_seen : (old new : Slots) (hs : List HeldPiece) (n i : ℕ) → new.bytes ≡ old.bytes →
    payload_in new (drop n hs) i ≡ payload_in old hs (n + i)
dropped_seen old new hs n i same =
    (λ j. get_or (map (λ (h : HeldPiece). take h.size (get_or (same j) h.slot [])) (drop n hs)) i [])
    ∙ ap (λ ps. get_or ps i []) (sym (drop-map (seen_at old) n hs)) ∙ get_or-drop n (map (seen_at old) hs) i []

pub dropped_giving : (hs : List HeldPiece) (n i : ℕ) → giving_in (drop n hs) i ≡ giving_in hs (n + i)
dropped_giving hs n i =
    ap (λ xs. get_or xs i None) (sym (drop-map giving_at n hs)) ∙ get_or-drop n (map giving_at hs) i None

module _ (old new : Slots) (w : SendWindow) (s : Sent) (acked n peer : ℕ) (soft : List Bool) (pieces : List HeldPiece)
    (marks : ℕ → Bool) (told : ℕ) where
  -- what is left of the pieces stands for what is left of the stream
  pub dropped_stands : StandsSent old w s → w.acked + n ≡ acked → new.bytes ≡ old.bytes → pieces ≡ drop n w.pieces
      → ((i : ℕ) → get_or soft i false ≡ marks (suc (acked + i))) → peer ≡ told
      → StandsSent new (record w { acked = acked; soft = soft; peer_window = peer; pieces = pieces })
      (record s { acked = acked; soft = marks; peer_window = told })
  dropped_stands st at same is soft_is peer_is =
      record {
        total = st.total;
        shut = st.shut;
        acked = refl;
        given = st.given;
        soft = soft_is;
        peer = peer_is;
        pieces = λ i. ap (λ hs. payload_in new hs i) is ∙ dropped_seen old new w.pieces n i same ∙ st.pieces (n + i)
            ∙ ap (λ k. payload_at s.said (suc k)) (omega (arith, at));
        givings = λ i. ap (λ hs. giving_in hs i) is ∙ dropped_giving w.pieces n i ∙ st.givings (n + i)
            ∙ ap (λ k. last_giving s.givings (suc k)) (omega (arith, at));
        orders = st.orders;
        since = st.since;
      }

-- ---- an ACK

-- the stream behind an ACK that isn't stale
abbrev pub acked_by : ℕ → List Bool → Option ℕ → Sent → Sent
acked_by first marks window s =
    record s { acked = first - 1; soft = is_marked first marks; peer_window = with_window window s.peer_window }

pub fresh_ack : (s : Sent) (first : ℕ) (marks : List Bool) (window : Option ℕ) → s.acked ≤ first - 1 →
    after_ack first marks window s ≡ acked_by first marks window s
fresh_ack s first marks window le =
    let fresh : nat_lt (first - 1) s.acked ≡ false = grind (arith, nat_tests, le) in
    ap (λ b. cond b s (acked_by first marks window s)) fresh

pub stale_ack : (s : Sent) (first : ℕ) (marks : List Bool) (window : Option ℕ) → first - 1 < s.acked →
    after_ack first marks window s ≡ s
stale_ack s first marks window lt =
    let yes : nat_lt (first - 1) s.acked ≡ true = grind (arith, nat_tests, lt) in
    ap (λ b. cond b s (acked_by first marks window s)) yes

-- what is new between two streams
abbrev pub news : ℕ → Sent → (ℕ → Bool) → (ℕ → Bool) → ℕ → rules.Newly
news now s before after given =
    record { count = newly_by before after given; sample = trip_at now s.givings (highest_by before after given) }

pub stale_newly : (s : Sent) (now first : ℕ) (marks : List Bool) → first - 1 < s.acked →
    ◌≡◌ {A = rules.Newly} (record { count = 0; sample = None }) (newly_of now first marks s)
stale_newly s now first marks lt =
    let test = is_acked s in
    let n = given_of s in
    let top : trip_at now s.givings (highest_by test test n) ≡ None = (
    ap (trip_at now s.givings) (highest_same test n)) in
    let nothing : ◌≡◌ {A = rules.Newly} (record { count = 0; sample = None }) (news now s test test n) = (
    λ i. record { count = sym (newly_same test n) i; sample = sym top i }) in
    nothing ∙ sym (ap (λ (t : Sent). news now s test (is_acked t) n) (stale_ack s first marks None lt))

module _ (pool : Slots) (w : SendWindow) (s : Sent) (now first count : ℕ) (marks : List Bool) (sample : Option ℕ) where
  pub fresh_newly : StandsSent pool w s → 0 < first → w.acked ≤ first - 1
      → count ≡ newly_by (is_acked_by w.acked w.soft) (is_acked_by (first - 1) marks) w.given
      → sample ≡ trip_at now s.givings (highest_by (is_acked_by w.acked w.soft) (is_acked_by (first - 1) marks) w.given)
      → ◌≡◌ {A = rules.Newly} (record { count = count; sample = sample }) (newly_of now first marks s)
  fresh_newly st some le is trip =
      let acked = st.acked in
      let fresh = fresh_ack s first marks None (omega (arith, le, acked)) in
      let after = acked_by first marks None s in
      let before_is = known_is pool w s st in
      let after_is = known_of (first - 1) marks after refl (λ i. marked_at first marks i some) in
      (λ i. record { count = is i; sample = trip i })
      ∙ (λ i. news now s (before_is i) (after_is i) (st.given i))
      ∙ sym (ap (λ (t : Sent). news now s (is_acked s) (is_acked t) (given_of s)) fresh)

-- marks past a window stand for nothing that was given
pub marks_alike : (w : SendWindow) (low flight first : ℕ) (marks soft : List Bool) → IsTied w low flight →
    is_valid_ack w.given first marks ≡ true → w.acked ≤ first - 1 →
    soft ≡ take (min (length marks) MAX_WINDOW) marks → (i : ℕ) → get_or soft i false ≡ get_or marks i false
marks_alike w low flight first marks soft tied valid le is =
    let sense = makes_sense w.given first marks valid in
    let some = sense.some in
    let held = tied.held in
    let few = tied.within in
    let most = tied.most in
    let given = tied.given_most in
    let counted = counting_most w.total w.shut in
    kept_alike soft marks MAX_WINDOW is
    (λ i past. past_quiet marks first w.given i sense.past
    (omega (arith, past, some, held, few, most, given, counted, le)))

module _ (old new : Slots) (w : SendWindow) (s : Sent) (first peer : ℕ) (marks soft : List Bool) (window : Option ℕ)
    (pieces : List HeldPiece) where
  pub ack_stands : StandsSent old w s → 0 < first → w.acked ≤ first - 1 → new.bytes ≡ old.bytes
      → pieces ≡ drop (first - 1 - w.acked) w.pieces → ((i : ℕ) → get_or soft i false ≡ get_or marks i false)
      → peer ≡ with_window window w.peer_window
      → StandsSent new (record w { acked = first - 1; soft = soft; peer_window = peer; pieces = pieces })
      (after_ack first marks window s)
  ack_stands st some le same is soft_is peer_is =
      let acked = st.acked in
      let after : SendWindow = record w { acked = first - 1; soft = soft; peer_window = peer; pieces = pieces } in
      subst (λ (t : Sent). StandsSent new after t) (sym (fresh_ack s first marks window (omega (arith, le, acked))))
      (dropped_stands old new w s (first - 1) (first - 1 - w.acked) peer soft pieces (is_marked first marks)
      (with_window window s.peer_window) st (omega (arith, le)) same is (λ i. soft_is i ∙ marked_at first marks i some)
      (peer_is ∙ ap (with_window window) st.peer))

module _ (w : SendWindow) (low flight first : ℕ) (marks soft : List Bool) (pieces : List HeldPiece)
    (low2 flight2 peer : ℕ) where
  pub ack_tied : IsTied w low flight → is_valid_ack w.given first marks ≡ true → w.acked ≤ first - 1
      → pieces ≡ drop (first - 1 - w.acked) w.pieces → soft ≡ take (min (length marks) MAX_WINDOW) marks
      → low2 ≡ leading_marks soft → flight2 ≡ flight_by (is_acked_by (first - 1) marks) w.given → peer ≤ MAX_WINDOW
      → (0 < length (drop (first - 1 - w.acked) w.pieces)
      → last_size (drop (first - 1 - w.acked) w.pieces) ≡ last_size w.pieces)
      → IsTied (record w { acked = first - 1; soft = soft; peer_window = peer; pieces = pieces }) low2 flight2
  ack_tied tied valid le is soft_is low_is flight_is peer_most
      last =
      let n = first - 1 - w.acked in
      let sense = makes_sense w.given first marks valid in
      let some = sense.some in
      let upto = sense.upto in
      let alike = marks_alike w low flight first marks soft tied valid le soft_is in
      let few : length soft ≡ min (length marks) MAX_WINDOW = (
      ap length soft_is ∙ length-take-le (min (length marks) MAX_WINDOW) marks (omega arith)) in
      let held = tied.held in
      let given_most = tied.given_most in
      let counted : counting_by w.total w.shut ≤ pieces_by w.total w.shut = counting_most w.total w.shut in
      let size : length pieces ≡ length w.pieces - n = ap length is ∙ length-drop n w.pieces in
      let within = tied.within in
      record {
        least = tied.least;
        most = tied.most;
        held = omega (arith, held, size, le, upto, given_most, counted);
        within = omega (arith, within, size);
        filling = λ lt. (
            let there : 0 < length (drop n w.pieces) = subst (λ hs. 0 < length hs) is lt in
            let before = tied.filling (omega (arith, lt, size)) in
            let same : last_size pieces ≡ last_size w.pieces = ap last_size is ∙ last there in
            omega (arith, before, same, size, le, lt, held));
        fits = tied.fits;
        given_most = tied.given_most;
        acked_most = upto;
        quiet = λ i past. alike i ∙ past_quiet marks first w.given i sense.past (omega (arith, past, some));
        lowest = low_is;
        in_flight = flight_is ∙ ap (λ known. flight_by known w.given) (sym (known_alike (first - 1) soft marks alike));
        sized = subst AllSized (sym is) (sized_drop n w.pieces tied.sized);
        timed = subst AllTimed (sym is) (timed_drop n w.pieces tied.timed);
        marks = omega (arith, few);
        peer = peer_most;
        orders = tied.orders;
        since = tied.since;
      }
