-- The row of an ACKALL of a call that is at work at a server, and what it makes of the call where it makes sense: a
-- stream that was shut is delivered, and the call is over.
use Rattle.std.proofs.Common.{◌≡◌, ◌&&◌, ◌||◌, ◌==◌, cond, if◌then◌else◌, Bool, true, false, List, Option, Some, None}
use Rattle.std.proofs.Common.{refl, ◌∙◌, ap, sym, option_map}
use Rattle.rx_model.specs.declared.answers.Took.TheVariants as tooks
use Rattle.rx_model.specs.declared.event.Event.{Event}
use Rattle.rx_model.specs.declared.names.CallName.{CallName}
use Rattle.rx_model.specs.Body.{Body}
use Rattle.rx_model.specs.Body as bodies
use Rattle.rx_model.specs.Message.{Message}
use Rattle.rx_model.specs.Names.{connection_of, same_name}
use Rattle.rx_model.specs.Strays.{is_stray}
use Rattle.rx_model.proofs.NameLaws.{name_itself, number_itself}
use Rattle.rx_rules.specs.After.{looks, prepared, settled, taken_at, taken_heard, taken_with}
use Rattle.rx_rules.specs.CallLooks.{CallLooks, after_body, after_taken, call_row, is_delivered}
use Rattle.rx_rules.specs.Judging.{facts_of, live_row, opened, own_row, row_at, took_named}
use Rattle.rx_rules.specs.Life.{Life, after_acks, is_active, is_calling}
use Rattle.rx_rules.specs.Life as lives
use Rattle.rx_rules.specs.Looks.{CallRecord, Looks, call_at, is_call}
use Rattle.rx_rules.specs.Rules.{Legal}
use Rattle.rx_rules.specs.Sent.{Sent, after_all, is_all_given, is_all_known, pieces_of}
use Rattle.rx_rules.specs.Setup.{IsServer, Kind, Server, Client, Setup, is_client}
use Rattle.rx_rules.specs.Slots.{node_view}
use Rattle.rx_history.proofs.Calls.{call-changed}
use Rattle.rx_history.proofs.Differ.{every_found}
use Rattle.rx_history.proofs.Events.{call-by, calls-prepared}
use Rattle.rx_history.proofs.LifeFalls.{is_begun}
use Rattle.rx_history.proofs.Suffice.{roomy_history}
use Rattle.rx_history.proofs.Room.Tight.{TightOf}
use Rattle.rx_between.specs.Agreed.{MakesSense}
use Rattle.rx_closing.proofs.Messages.Rows.{IsLast, latest_is, opens_none, passes_rows, server_past}
use Rattle.rx_closing.proofs.Owing.TooMuch.{server_side}

-- ---- the row of a message of an active call at a server

-- an ACKALL is judged by the end of its call
pub ackall_took : (s : Setup) (l : Looks) (c : CallName) (k : CallRecord) (m : Message) → IsServer s.kind → IsLast l c k
    → is_active k.life ≡ true → m.number ≡ c.number → m.body ≡ bodies.AckAll
    → took_named s l c m ≡ call_row (node_view s l) m m.body k.looks
ackall_took s l c k m serves last active own at =
    server_side s.kind (facts_of s l c m) (own_row s (opened s c l) c m) serves
    ∙ server_past (facts_of s l c m) (own_row s (opened s c l) c m)
    (passes_rows s l c m last.number last.some own (ap (is_stray m) at))
    (ap (is_call (λ (r : CallRecord). is_active r.life)) (latest_is l c last.number ∙ last.there) ∙ active)
    ∙ ap (λ (n : Looks). own_row s n c m) (opens_none s l c last.number)
    ∙ ap (λ (o : Option CallRecord). row_at s l o m) last.there
    ∙ ap (live_row s l k m) at

-- ---- what it makes of the call

-- where it makes sense the stream was given whole, and it is heard
pub ackall_heard : (sent : Sent) → MakesSense (if is_all_given sent then tooks.Heard else tooks.Strange)
    → (is_all_given sent ≡ true) × ((if is_all_given sent then tooks.Heard else tooks.Strange) ≡ tooks.Heard)
ackall_heard sent sense = of (is_all_given sent) refl sense
  where
    of : (b : Bool) → is_all_given sent ≡ b → MakesSense (if b then tooks.Heard else tooks.Strange)
        → (is_all_given sent ≡ true) × ((if is_all_given sent then tooks.Heard else tooks.Strange) ≡ tooks.Heard)
    of true is sense = (is, ap (λ (b : Bool). if b then tooks.Heard else tooks.Strange) is)
    of false is sense = absurd sense

-- it is not foreign
pub ackall_own : (sent : Sent) → (if is_all_given sent then tooks.Heard else tooks.Strange) ≡ tooks.Foreign → ⊥
ackall_own sent is = of (is_all_given sent) is
  where
    of : (b : Bool) → (if b then tooks.Heard else tooks.Strange) ≡ tooks.Foreign → ⊥
    of true is = (let no : tooks.Heard ≡ tooks.Foreign = is in cc (no))
    of false is = (let no : tooks.Strange ≡ tooks.Foreign = is in cc (no))

-- the call behind it
pub heard_there : (s : Setup) (l : Looks) (c : CallName) (k : CallRecord) (m : Message) → IsLast l c k
    → m.body ≡ bodies.AckAll
    → call_at (taken_with s tooks.Heard c m (prepared s tooks.Heard (connection_of c) l)) c
    ≡ Some (settled (record k {
      looks = after_taken (node_view s (prepared s tooks.Heard (connection_of c) l)) tooks.Heard m k.looks;
    }))
heard_there s l c k m last at =
    ap (λ (b : Body). call_at (taken_heard s c b (taken_at s tooks.Heard c m r)) c) at
    ∙ call-changed c c settled (taken_at s tooks.Heard c m r) (λ j. refl)
    ∙ ap (λ (b : Bool). cond b (option_map settled (call_at (taken_at s tooks.Heard c m r) c))
    (call_at (taken_at s tooks.Heard c m r) c)) (name_itself c)
    ∙ ap (λ (o : Option CallRecord). option_map settled o)
    (call-changed c c takes_it r (λ j. refl)
    ∙ ap (λ (b : Bool). cond b (option_map takes_it (call_at r c)) (call_at r c)) (name_itself c)
    ∙ ap (λ (o : Option CallRecord). option_map takes_it o)
    (call-by c l r (calls-prepared s tooks.Heard (connection_of c) l) ∙ last.there))
  where
    r : Looks
    r = prepared s tooks.Heard (connection_of c) l

    takes_it : CallRecord → CallRecord
    takes_it j = record j { looks = after_taken (node_view s r) tooks.Heard m j.looks }

-- a stream that was shut is delivered behind an ACKALL
pub delivered_by : (s : Setup) (r : Looks) (m : Message) (k : CallLooks) → m.body ≡ bodies.AckAll → k.sent.shut ≡ true
    → is_delivered (after_taken (node_view s r) tooks.Heard m k) ≡ true
delivered_by s r m k at shut =
    ap (λ (b : Body). is_delivered (record (after_body (node_view s r).now m b k) { heard = (node_view s r).now })) at
    ∙ or_true (k.sent.shut && (pieces_of k.sent == pieces_of k.sent))
    (k.cwnd.prompt && is_all_known (after_all k.sent)) all
  where
    or_true : (a b : Bool) → a ≡ true → (a || b) ≡ true
    or_true true b is = refl
    or_true false b is = absurd (cc (is))

    all : (k.sent.shut && (pieces_of k.sent == pieces_of k.sent)) ≡ true
    all =
        ap (λ (b : Bool). b && (pieces_of k.sent == pieces_of k.sent)) shut ∙ number_itself (pieces_of k.sent)

-- a finished call is over
pub finished_over : (b : Bool) (x : Life) → x ≡ lives.Finished → b ≡ true → after_acks b x ≡ x → ⊥
finished_over b x is all same =
    (let over : after_acks b x ≡ lives.Over None = (λ i. after_acks (all i) (is i)) in
    let no : lives.Over None ≡ lives.Finished = sym over ∙ same ∙ is in cc (no))

-- a server's call at work that was shut is finished
pub shut_finished : (s : Setup) (es : List Event) (c : CallName) (k : CallRecord) → IsServer s.kind → Legal s es
    → call_at (looks s es) c ≡ Some k → is_active k.life ≡ true → k.looks.sent.shut ≡ true → k.life ≡ lives.Finished
shut_finished s es c k serves legal there active shut = by k.life refl
  where
    tight : TightOf (is_client s.kind) k
    tight =
        every_found (TightOf (is_client s.kind)) (λ (x : CallRecord). same_name x.name c) (looks s es).calls k
        (roomy_history s es legal).tight there

    serving : (kind : Kind) → IsServer kind → is_client kind ≡ false
    serving (Server service nonces) is = refl
    serving (Client host epoch) is = absurd is

    by : (x : Life) → k.life ≡ x → k.life ≡ lives.Finished
    by lives.Finished is = is
    by lives.Calling is =
        absurd (let no : false ≡ true = sym (tight.served (serving s.kind serves)) ∙ ap is_calling is in cc (no))
    by lives.Waiting is =
        absurd (let no : false ≡ true = sym (tight.unshut (serving s.kind serves) (ap is_begun is)) ∙ shut in cc (no))
    by lives.Accepted is =
        absurd (let no : false ≡ true = sym (tight.unshut (serving s.kind serves) (ap is_begun is)) ∙ shut in cc (no))
    by _ is = absurd (let no : false ≡ true = ap is_active (sym is) ∙ active in cc (no))
