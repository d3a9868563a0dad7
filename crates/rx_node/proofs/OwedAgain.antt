-- What a channel owes again, and whether its call is challenged.
use Rattle.std.proofs.Common.{◌≡◌, Bool, true, false, Option, Some, None, option_map}
use Rattle.std.proofs.Common.{refl, ◌∙◌, ap, sym, if◌then◌else◌, not, ◌&&◌}
use Rattle.rx_model.specs.declared.names.CallName.{CallName}
use Rattle.rx_model.specs.Body.{Body}
use Rattle.rx_model.specs.Body as bodies
use Rattle.rx_model.specs.Names.{Channel, channel_of, connection_of}
use Rattle.rx_rules.specs.After.{challenged, owing_abort, owing_ackall, owing_again, taken_over}
use Rattle.rx_rules.specs.Life.{Life}
use Rattle.rx_rules.specs.Looks.{CallRecord, ChannelLooks, Looks, is_proved, on_channel}
use Rattle.rx_rules.specs.Setup.{Setup, is_client}
use Rattle.rx_node.specs.Steps.{acks_again, code_again}
use Rattle.rx_node.proofs.ChannelChanges.{channel_twice}

-- ---- a message for a call that ended

-- what its channel owes again, by the life that it had
pub over_is : (c : CallName) (body : Body) (o : Option CallRecord) (l : Looks) (life : Life)
    → Some life ≡ option_map (λ k. k.life) o
    → taken_over c body o l ≡ on_channel (channel_of c) (owing_again body life) l
over_is c body None l life is = absurd (cc (is))
over_is c body (Some k) l life is =
    (let same : life ≡ k.life = cc (is) in
    ap (λ (x : Life). on_channel (channel_of c) (owing_again body x) l) (sym same))

-- an ABORT and an ACKALL
pub again_is : (body : Body) (life : Life) (q : ChannelLooks)
    → owing_again body life q ≡ owing_ackall (acks_again body life) (owing_abort (code_again body life) q)
again_is (bodies.Chunk payload) life q = refl
again_is (bodies.Ack a) life q = refl
again_is bodies.Busy life q = refl
again_is (bodies.Abort code) life q = refl
again_is bodies.AckAll life q = refl
again_is (bodies.Challenge bytes) life q = refl
again_is (bodies.Response bytes) life q = refl

pub again_both : (ch : Channel) (body : Body) (life : Life) (l : Looks)
    → on_channel ch (owing_ackall (acks_again body life)) (on_channel ch (owing_abort (code_again body life)) l)
    ≡ on_channel ch (owing_again body life) l
again_both ch body life l =
    channel_twice ch (owing_abort (code_again body life)) (owing_ackall (acks_again body life)) l
    ∙ (λ i. on_channel ch (λ q. sym (again_is body life q) i) l)

-- of no call nothing
pub over_none : (c : CallName) (body : Body) (o : Option CallRecord) (l : Looks)
    → None ≡ option_map (λ k. k.life) o → taken_over c body o l ≡ l
over_none c body None l is = refl
over_none c body (Some k) l is = absurd (cc (is))

-- ---- a CHALLENGE

-- a call that is challenged, and one that isn't
abbrev pub IsChallenged : Setup → CallName → Looks → Bool → Type 0
IsChallenged s c l b = b ≡ (not (is_client s.kind) && (s.class.challenges && not (is_proved l (connection_of c))))

pub challenged_yes : (s : Setup) (c : CallName) (l : Looks) (b : Bool) → IsChallenged s c l b → b ≡ true
    → on_channel (channel_of c) (λ q. record q { owed_challenge = true }) l ≡ challenged s c l
challenged_yes s c l b is holds =
    ap (λ (b : Bool). if b then on_channel (channel_of c) (λ q. record q { owed_challenge = true }) l else l)
    (sym holds ∙ is)

pub challenged_no : (s : Setup) (c : CallName) (l : Looks) (b : Bool) → IsChallenged s c l b → b ≡ false
    → l ≡ challenged s c l
challenged_no s c l b is fails =
    ap (λ (b : Bool). if b then on_channel (channel_of c) (λ q. record q { owed_challenge = true }) l else l)
    (sym fails ∙ is)
