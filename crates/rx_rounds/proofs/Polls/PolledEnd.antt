-- One end of a call by itself, of which all that it says is acknowledged in order: what it gives when it is polled out.
use Rattle.std.proofs.Common.{◌≡◌, ◌<◌, ◌≤◌, ◌+◌, ◌%◌, ◌^◌, ◌==◌, ◌++◌, ◌⊎◌, ℕ, suc, min, Bool}
use Rattle.std.proofs.Common.{true, false, List, [], ◌∷◌, refl, ap, sym, subst, ◌∙◌, inl, inr, ⊎_elim, arith, Option}
use Rattle.std.proofs.Common.{Some, None}
use Rattle.std.proofs.Common.{if◌then◌else◌, length}
use Rattle.std.proofs.lemmas.Bool.{cases_lt, le-leb, lt-leb}
use Rattle.std.specs.Prelude.{IfSome}
use Rattle.rx_model.specs.declared.wire.TheConstants.{ACK_PING, CLIENT_INITIATED}
use Rattle.rx_model.specs.Body.{AckBody, Body}
use Rattle.rx_model.specs.Body as bodies
use Rattle.rx_model.specs.Message.{Message}
use Rattle.rx_rules.specs.CallItems.{Ack, flags_of}
use Rattle.rx_rules.specs.CallLooks.{CallLooks}
use Rattle.rx_rules.specs.Owing.{Owed}
use Rattle.rx_rules.specs.Received.{marks_of, reach, used_of}
use Rattle.rx_rules.specs.Received as received
use Rattle.rx_rounds.proofs.One.OneWay.{IsPlainOwed, Sends, Tells}
use Rattle.rx_rounds.proofs.Pair.{CallEnd, Place, gave, message_of, next_of}
use Rattle.rx_rounds.proofs.Serving.SendsLaws.{tells, next_rest}
use Rattle.rx_rounds.proofs.Exchange.{PollsOut, none_due, gives, ack_with, Acks, no_ack, an_ack, AreGiven, PiecesOut}
use Rattle.rx_rounds.proofs.Exchange.{pieces_out}

-- an acknowledgement that is due or isn't, and a ping
pub data Told (client : Bool) (now spoke : ℕ) (owed : Option Owed) : Type 0 where
  nothing_told : tells client now spoke owed ≡ None → ((o : Owed) → owed ≡ Some o → now < o.rank)
      → (client ≡ true → now < spoke + 2000) → Told client now spoke owed
  something_told : (reason serial : ℕ) → tells client now spoke owed ≡ Some (Ack reason serial)
      → 1 ≤ reason → reason ≤ 8 → serial < 2 ^ 32 → (client ≡ false → (reason == ACK_PING) ≡ false)
      → (owed ≡ None → (client ≡ true → now < spoke + 2000) → ⊥) → (owed ≡ None → reason ≡ 6)
      → Told client now spoke owed

-- what an end tells
pub told_by : (client : Bool) (now spoke : ℕ) (owed : Option Owed) → IfSome owed IsPlainOwed
    → Told client now spoke owed
told_by false now spoke None plain = nothing_told refl (λ o is. absurd cc) (λ is. absurd cc)
told_by true now spoke None plain =
    elim (cases_lt now (spoke + 2000)) as (λ c. Told true now spoke None) [
      | inl early ↦ nothing_told (rw (lt-leb (spoke + 2000) now early) refl) (λ o is. absurd cc) (λ is. early)
      | inr late ↦ something_told 6 0 (rw (le-leb (spoke + 2000) now late) refl) (omega arith) (omega arith)
          (omega arith) (λ is. absurd cc) (λ none early. (let soon : now < spoke + 2000 = early refl in omega arith))
          (λ none. refl)
    ]
told_by false now spoke (Some o) plain =
    elim (cases_lt now o.rank) as (λ c. Told false now spoke (Some o)) [
      | inl early ↦ nothing_told (rw (lt-leb o.rank now early) refl)
          (λ q is. subst (λ (z : Owed). now < z.rank) (some_same o q is) early) (λ is. absurd cc)
      | inr late ↦ something_told o.reason o.serial (rw (le-leb o.rank now late) refl) plain.reason_low
          plain.reason_high plain.serial (λ is. plain.no_ping) (λ none early. some_not o none)
          (λ none. absurd (some_not o none))
    ]
  where
    some_same : (a b : Owed) → ◌≡◌ {A = Option Owed} (Some a) (Some b) → a ≡ b
    some_same a b same = cc

    some_not : (a : Owed) → ◌≡◌ {A = Option Owed} (Some a) None → ⊥
    some_not a none = absurd cc
told_by true now spoke (Some o) plain =
    elim (cases_lt now o.rank) as (λ c. Told true now spoke (Some o)) [
      | inl early ↦ elim (cases_lt now (spoke + 2000)) as (λ c. Told true now spoke (Some o)) [
        | inl soon ↦ nothing_told (rw (lt-leb o.rank now early, lt-leb (spoke + 2000) now soon) refl)
            (λ q is. subst (λ (z : Owed). now < z.rank) (some_same o q is) early) (λ is. soon)
        | inr over ↦ something_told 6 0 (rw (lt-leb o.rank now early, le-leb (spoke + 2000) now over) refl)
            (omega arith) (omega arith) (omega arith) (λ is. absurd cc) (λ none early. some_not o none)
            (λ none. absurd (some_not o none))
      ]
      | inr late ↦ elim (cases_lt now (spoke + 2000)) as (λ c. Told true now spoke (Some o)) [
        | inl soon ↦ something_told o.reason o.serial
            (rw (le-leb o.rank now late, lt-leb (spoke + 2000) now soon) refl) plain.reason_low plain.reason_high
            plain.serial (λ is. absurd cc) (λ none early. some_not o none) (λ none. absurd (some_not o none))
        | inr over ↦ elim (cases_lt (spoke + 2000) o.rank) as (λ c. Told true now spoke (Some o)) [
          | inl less ↦ something_told 6 0 (rw (le-leb o.rank now late, le-leb (spoke + 2000) now over)
              (rw (lt-leb o.rank (spoke + 2000) less) refl)) (omega arith) (omega arith) (omega arith)
              (λ is. absurd cc) (λ none early. some_not o none) (λ none. absurd (some_not o none))
          | inr least ↦ something_told o.reason o.serial
              (rw (le-leb o.rank now late, le-leb (spoke + 2000) now over)
              (rw (le-leb o.rank (spoke + 2000) least) refl)) plain.reason_low plain.reason_high plain.serial
              (λ is. absurd cc) (λ none early. some_not o none) (λ none. absurd (some_not o none))
        ]
      ]
    ]
  where
    some_same : (a b : Owed) → ◌≡◌ {A = Option Owed} (Some a) (Some b) → a ≡ b
    some_same a b same = cc

    some_not : (a : Owed) → ◌≡◌ {A = Option Owed} (Some a) None → ⊥
    some_not a none = absurd cc

-- ---- and what it tells

-- ACKs that are pings
abbrev pub IsPing : Body → Type 0
IsPing (bodies.Ack a) = a.reason ≡ 6
IsPing _ = Unit {0}

abbrev pub ArePings : List Message → Type 0
ArePings [] = Unit {0}
ArePings (m ∷ ms) = IsPing m.body

-- an end is polled out: its pieces, and then an ACK, if one is due or a ping is
pub record PolledOut (p : Place) (whole : List ℕ) (since a n m : ℕ) (e : CallEnd) : Type 0 where
  pub pieces : PiecesOut p whole since a n e
  pub acks : List Message
  pub behind : CallEnd
  pub tells : Acks p.header p.client m acks
  pub polls : PollsOut p e (pieces.messages ++ acks) behind
  pub owed : Option Owed
  pub spoke : ℕ
  pub is : behind.looks ≡ record e.looks {
    sent = record e.looks.sent { givings = pieces.givings };
    owed_ack = owed;
    spoke = spoke;
  }
  pub told : ((owed ≡ None) × (spoke ≡ p.now) × (1 ≤ length acks))
      ⊎ ((acks ≡ []) × (owed ≡ e.looks.owed_ack) × (spoke ≡ pieces.spoke)
      × ((o : Owed) → owed ≡ Some o → p.now < o.rank) × (p.client ≡ true → p.now < spoke + 2000))
  pub quiet : e.looks.owed_ack ≡ None → (p.client ≡ true → p.now < e.looks.spoke + 2000) → acks ≡ []
  pub pings : e.looks.owed_ack ≡ None → ArePings acks

-- what was given now is as behind its pieces
pub given_behind : (p : Place) (whole : List ℕ) (since a n m : ℕ) (e : CallEnd) (o : PolledOut p whole since a n m e)
    → (low : ℕ) → AreGiven p.now low o.pieces.last o.pieces.behind.looks
    → AreGiven p.now low o.pieces.last o.behind.looks
given_behind p whole since a n m e o low h =
    subst (λ (k : CallLooks). AreGiven p.now low o.pieces.last k) (sym o.is)
    (subst (λ (k : CallLooks). AreGiven p.now low o.pieces.last k) o.pieces.is h)

-- what it gave last changes nothing of what it sends
given_told : (whole : List ℕ) (s a n : ℕ) (k : CallLooks) (owed : Option Owed) (spoke : ℕ) → Sends whole s a n k
    → Sends whole s a n (record k { owed_ack = owed; spoke = spoke })
given_told whole s a n k owed spoke g =
    record {
      acked = g.acked;
      given = g.given;
      marked = g.marked;
      peer = g.peer;
      known = g.known;
      near = g.near;
      counted = g.counted;
      rest = g.rest;
      said = g.said;
      shut = g.shut;
      held = g.held;
      rates = record {
        wide = g.rates.wide;
        most = g.rates.most;
        steady = g.rates.steady;
        even = g.rates.even;
        slow = g.rates.slow;
      };
      recent = g.recent;
    }

-- what it sends is as behind its pieces
pub sends_told : (p : Place) (whole : List ℕ) (since a n m : ℕ) (e : CallEnd) (o : PolledOut p whole since a n m e)
    → (s : ℕ) → Sends whole s a o.pieces.last o.pieces.behind.looks → Sends whole s a o.pieces.last o.behind.looks
sends_told p whole since a n m e o s h =
    subst (λ (k : CallLooks). Sends whole s a o.pieces.last k) (sym o.is)
    (given_told whole s a o.pieces.last (record e.looks {
      sent = record e.looks.sent { givings = o.pieces.givings };
      spoke = o.pieces.spoke;
    }) o.owed o.spoke (subst (λ (k : CallLooks). Sends whole s a o.pieces.last k) o.pieces.is h))

-- nothing more is told at that moment
tells_none : (client : Bool) (now : ℕ) → tells client now now None ≡ None
tells_none true now = rw (lt-leb (now + 2000) now (omega arith)) refl
tells_none false now = refl

pub polled_out : (p : Place) (whole : List ℕ) (since a n m : ℕ) (e : CallEnd) → p.window ≡ 32
    → (a < n → p.now ≤ since + 100) → Sends whole since a n e.looks → Tells m e.looks
    → PolledOut p whole since a n m e
polled_out p whole since a n m e window soon h t =
    let x : PiecesOut p whole since a n e = pieces_out (a + 32) p whole since a n e (omega arith) h in
    by x (told_by p.client p.now x.spoke e.looks.owed_ack t.plain)
  where
    by : (x : PiecesOut p whole since a n e) → Told p.client p.now x.spoke e.looks.owed_ack
        → PolledOut p whole since a n m e
    by x told = of (sent_since (cases_lt a n)) told
      where
        sent_since : (a < n) ⊎ (n ≤ a) → (s : ℕ) × Sends whole s a x.last x.behind.looks × (p.now ≤ s + 100)
        sent_since (inl less) = (
          min since p.now,
          x.sends (min since p.now) (omega arith) (λ some. omega arith),
          (let near : p.now ≤ since + 100 = soon less in omega arith),
        )
        sent_since (inr all) = (p.now, x.sends p.now (omega arith) (λ some. absurd (omega arith)), omega arith)

        of : (s : ℕ) × Sends whole s a x.last x.behind.looks × (p.now ≤ s + 100)
            → Told p.client p.now x.spoke e.looks.owed_ack → PolledOut p whole since a n m e
        of s (nothing_told none late early) =
            record {
              pieces = x;
              acks = [];
              behind = x.behind;
              tells = no_ack;
              polls = x.polls [] x.behind (none_due x.behind
                  (next_rest whole s.0 a x.last x.behind.looks s.1 p x.over (λ some. s.2)
                  ∙ ap (λ (k : CallLooks). tells p.client p.now k.spoke k.owed_ack) x.is ∙ none));
              owed = e.looks.owed_ack;
              spoke = x.spoke;
              is = x.is;
              told = inr (refl, refl, refl, late, early);
              quiet = λ none soon_. refl;
              pings = λ none_. tt;
            }
        of s (something_told reason caused some low high small kind why ping) =
            let k : CallLooks = x.behind.looks in
            let said : received.Received = e.looks.received in
            let last : CallEnd = gave p (Ack reason caused) x.behind in
            let same : k.received ≡ said = ap (λ (i : CallLooks). i.received) x.is in
            let is_ack : message_of p x.behind (Ack reason caused)
            ≡ ack_with p.header p.client m (suc x.behind.given % 2 ^ 32) said.previous caused reason =
            ap (λ (r : received.Received). record p.header {
              seq = 0;
              serial = suc x.behind.given % 2 ^ 32;
              flags = (if p.client then CLIENT_INITIATED else 0) + flags_of (reason == ACK_PING) false;
              body = bodies.Ack (record {
                first = used_of r + 1;
                previous = r.previous;
                serial = caused;
                reason = reason;
                marks = marks_of r;
                window = Some p.window;
              });
            }) same
            ∙ ap (λ (w : ℕ). record p.header {
              seq = 0;
              serial = suc x.behind.given % 2 ^ 32;
              flags = (if p.client then CLIENT_INITIATED else 0) + flags_of (reason == ACK_PING) false;
              body = bodies.Ack (record {
                first = w + 1;
                previous = said.previous;
                serial = caused;
                reason = reason;
                marks = marks_of said;
                window = Some p.window;
              });
            }) t.used
            ∙ ap (λ (w : List Bool). record p.header {
              seq = 0;
              serial = suc x.behind.given % 2 ^ 32;
              flags = (if p.client then CLIENT_INITIATED else 0) + flags_of (reason == ACK_PING) false;
              body = bodies.Ack (record {
                first = m + 1;
                previous = said.previous;
                serial = caused;
                reason = reason;
                marks = w;
                window = Some p.window;
              });
            }) t.marks
            ∙ ap (λ (w : ℕ). record p.header {
              seq = 0;
              serial = suc x.behind.given % 2 ^ 32;
              flags = (if p.client then CLIENT_INITIATED else 0) + flags_of (reason == ACK_PING) false;
              body = bodies.Ack (record {
                first = m + 1;
                previous = said.previous;
                serial = caused;
                reason = reason;
                marks = [];
                window = Some w;
              });
            }) window in
            let told : CallLooks = record k { owed_ack = None; spoke = p.now } in
            let plain : last.looks ≡ told = rw s.1.rates.steady refl in
            let over : next_of p last.looks ≡ None =
            ap (next_of p) plain
            ∙ next_rest whole s.0 a x.last told (given_told whole s.0 a x.last k None p.now s.1) p x.over (λ less. s.2)
            ∙ tells_none p.client p.now in
            let next : next_of p k ≡ Some (Ack reason caused) =
            next_rest whole s.0 a x.last k s.1 p x.over (λ less. s.2)
            ∙ ap (λ (i : CallLooks). tells p.client p.now i.spoke i.owed_ack) x.is ∙ some in
            record {
              pieces = x;
              acks = ack_with p.header p.client m (suc x.behind.given % 2 ^ 32) said.previous caused reason ∷ [];
              behind = last;
              tells = an_ack (suc x.behind.given % 2 ^ 32) said.previous caused reason (omega arith) t.previous small
                  low
                  high kind;
              polls = x.polls _ last (subst (λ (w : Message). PollsOut p x.behind (w ∷ []) last) is_ack
                  (gives x.behind last (Ack reason caused) [] next (none_due last over)));
              owed = None;
              spoke = p.now;
              is = plain ∙ ap (λ (i : CallLooks). record i { owed_ack = None; spoke = p.now }) x.is;
              told = inl (refl, refl, omega arith);
              quiet = λ none early. absurd (why none (λ is. ⊎_elim (λ (h : x.spoke ≡ p.now). omega arith)
                  (λ (h : (x.spoke ≡ e.looks.spoke) × (x.last ≡ n)).
                  (let soon_ : p.now < e.looks.spoke + 2000 = early is
                  in let same : x.spoke ≡ e.looks.spoke = h.0 in omega arith)) x.spoke_is));
              pings = λ none_. ping none_;
            }
