-- Of a call that waits for a handler nothing was read to its end.
use Rattle.std.proofs.Common.{◌≡◌, ◌||◌, ◌∷◌, ℕ, Bool, false, List, [], refl, ap, sym, subst, ◌∙◌, Option, Some, None}
use Rattle.std.proofs.Common.{inl, inr, arith}
use Rattle.rx_model.specs.declared.answers.ReadGot.{ReadGot}
use Rattle.rx_model.specs.declared.answers.ReadGot.TheVariants as readers
use Rattle.rx_model.specs.declared.answers.ServeRead.{ServeRead}
use Rattle.rx_model.specs.declared.answers.ServeRead.TheVariants as reads
use Rattle.rx_model.specs.declared.event.Event.{Event}
use Rattle.rx_model.specs.declared.event.Event.TheVariants as events
use Rattle.rx_model.specs.declared.names.CallName.{CallName}
use Rattle.rx_rules.specs.After.{is_end, looks}
use Rattle.rx_rules.specs.CallLooks.{CallLooks}
use Rattle.rx_rules.specs.Life.{Life}
use Rattle.rx_rules.specs.Life as lives
use Rattle.rx_rules.specs.Looks.{CallRecord, Looks, call_at}
use Rattle.rx_rules.specs.Received.{read_of}
use Rattle.rx_rules.specs.Rules.{AllowedServer, Legal, served_read, served_read_by}
use Rattle.rx_rules.specs.Setup.{FitsSetup, IsServer, Setup}
use Rattle.rx_history.proofs.Laws.OnceLaw.{served}
use Rattle.rx_between.proofs.Each.EachEvent.{each_step}
use Rattle.rx_between.proofs.Each.EachStep.{CallStep, EndStep, Starts, finishes, gives, reads as end_reads, shuts}
use Rattle.rx_between.proofs.Each.EachStep.{stays}
use Rattle.rx_between.proofs.Each.EachStep.{takes, writes}
use Rattle.rx_plan.proofs.Passed.{Passed, taken-leaves}
use Rattle.rx_closing.proofs.Far.FarGrows.{GoesOn, life_goes_on}
use Rattle.rx_closing.proofs.Frame.{rank_of}
use Rattle.rx_between.proofs.ReadOut.{sending_ended}

-- ---- a life

-- nothing comes before waiting
waited_before : (x y : Life) → GoesOn x y → y ≡ lives.Waiting → x ≡ lives.Waiting
waited_before x y (inl same) is = sym same ∙ is
waited_before x y (inr later) is =
    let none : rank_of y ≡ 0 = ap rank_of is in
    let less = later.rank in
    absurd (omega (arith, none, less))

-- ---- a step

-- a read of a call that waits tells no end
none_told : (s : Setup) (l : Looks) (c : CallName) (a : CallRecord) (most : ℕ) (got : ReadGot) (bytes : List ℕ)
    → AllowedServer s l (events.HasRead c most got bytes) → call_at l c ≡ Some a → a.life ≡ lives.Waiting
    → is_end got ≡ false
none_told s l c a most (readers.Client got) bytes allowed there waits = absurd allowed
none_told s l c a most (readers.Server got) bytes allowed there waits =
    let answer : ◌≡◌ {A = ServeRead × List ℕ} (got, bytes) (reads.NotOpen, []) =
    allowed.1 ∙ ap (λ (o : Option CallRecord). served_read o most) there
    ∙ ap (λ (x : Life). served_read_by x (read_of a.looks.received most)) waits in
    ap (λ (p : ServeRead × List ℕ). is_end (readers.Server p.0)) answer

end_fresh : (s : Setup) (l : Looks) (e : Event) (c : CallName) (a b : CallRecord) → AllowedServer s l e
    → call_at l c ≡ Some a → a.life ≡ lives.Waiting → EndStep s l e c a.looks b.looks → a.looks.received.ended ≡ false
    → b.looks.received.ended ≡ false
end_fresh s l e c a b allowed there waits (stays is) none =
    ap (λ (k : CallLooks). k.received.ended) is ∙ none
end_fresh s l e c a b allowed there waits (takes t) none =
    ap (λ (k : CallLooks). k.received.ended) t.is
    ∙ ap (λ (p : Passed). p.ended) (taken-leaves t.view t.got t.message a.looks) ∙ none
end_fresh s l e c a b allowed there waits (gives g) none =
    ap (λ (k : CallLooks). k.received.ended) g.is ∙ sending_ended l.now g.sending a.looks ∙ none
end_fresh s l e c a b allowed there waits (writes offered got bytes event is) none =
    ap (λ (k : CallLooks). k.received.ended) is ∙ none
end_fresh s l e c a b allowed there waits (end_reads most got bytes event is) none =
    ap (λ (k : CallLooks). k.received.ended) is
    ∙ ap (λ (x : Bool). x || a.looks.received.ended)
    (none_told s l c a most got bytes (subst (λ (x : Event). AllowedServer s l x) event allowed) there waits) ∙ none
end_fresh s l e c a b allowed there waits (shuts event is) none =
    ap (λ (k : CallLooks). k.received.ended) is ∙ none
end_fresh s l e c a b allowed there waits (finishes code event zero_ is) none =
    ap (λ (k : CallLooks). k.received.ended) is ∙ none

-- ---- at every moment of a server

abbrev FreshOf : Option CallRecord → Type 0
FreshOf None = Unit {0}
FreshOf (Some r) = r.life ≡ lives.Waiting → r.looks.received.ended ≡ false

starts_fresh : (s : Setup) (l : Looks) (e : Event) (c : CallName) (b : CallRecord) → Starts s l e c b → FreshOf (Some b)
starts_fresh s l e c b (named, inl opens) waits =
    ap (λ (k : CallLooks). k.received.ended) opens.takes.is
    ∙ ap (λ (p : Passed). p.ended) (taken-leaves opens.takes.view opens.takes.got opens.takes.message _)
starts_fresh s l e c b (named, inr made) waits =
    absurd (let wrong : lives.Calling ≡ lives.Waiting = sym made.life ∙ waits in cc (wrong))

fresh_of : (s : Setup) (h : List Event) (c : CallName) → IsServer s.kind → FitsSetup s → Legal s h
    → FreshOf (call_at (looks s h) c)
fresh_of s [] c server fits legal = tt
fresh_of s (e ∷ h) c server fits legal =
    of (call_at (looks s h) c) (call_at (looks s (e ∷ h)) c) refl (each_step s h e c fits legal)
    (fresh_of s h c server fits legal.1)
  where
    of : (a b : Option CallRecord) → call_at (looks s h) c ≡ a → CallStep s (looks s h) e c a b → FreshOf a → FreshOf b
    of None None there step fresh = tt
    of None (Some b) there starts fresh = starts_fresh s (looks s h) e c b starts
    of (Some a) None there step fresh = absurd step
    of (Some a) (Some b) there (inl goes) fresh = λ waits. (
        let before : a.life ≡ lives.Waiting =
        waited_before a.life b.life (life_goes_on s (looks s h) e c b.looks a.life b.life goes.life) waits in
        end_fresh s (looks s h) e c a b (served s.kind s (looks s h) e server legal.0) there before goes.end
        (fresh before))
    of (Some a) (Some b) there (inr starts) fresh = starts_fresh s (looks s h) e c b starts

pub waiting_fresh : (s : Setup) (h : List Event) (c : CallName) (r : CallRecord) → IsServer s.kind → FitsSetup s
    → Legal s h → call_at (looks s h) c ≡ Some r → r.life ≡ lives.Waiting → r.looks.received.ended ≡ false
waiting_fresh s h c r server fits legal there = subst FreshOf there (fresh_of s h c server fits legal)
