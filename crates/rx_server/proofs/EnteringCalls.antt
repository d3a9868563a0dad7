-- Whether the call of a channel may be given to a handler, by what a node says of it.
use Rattle.std.proofs.Common.{◌≡◌, ◌<◌, ◌&&◌, ◌||◌, ◌/◌, ◌%◌, ℕ, not, if◌then◌else◌, Bool, true, false, List}
use Rattle.std.proofs.Common.{Option, Some, None, option_map, refl, ◌∙◌, ap, sym, subst}
use Rattle.std.specs.Option.{option_eq}
use Rattle.std.specs.Prelude.{option_and_then}
use Rattle.rx_model.specs.Names.{Channel}
use Rattle.rx_rules.specs.Classes.{Class}
use Rattle.rx_rules.specs.Life.{is_waiting}
use Rattle.rx_rules.specs.Looks.{CallRecord, ConnLooks, Looks, is_call, is_proved, latest, latest_name}
use Rattle.rx_rules.specs.Rules.{can_enter}
use Rattle.rx_rules.specs.Setup.{Setup}
use Rattle.rx_node.specs.Lives.{life_of}
use Rattle.rx_node.specs.Mirrors.{IsChannel, IsKey, Mirrors, channel_in}
use Rattle.rx_node.specs.Node.{NodeState}
use Rattle.rx_node.specs.declared.life.Life.{Life as CodeLife}
use Rattle.rx_node.specs.declared.life.Life.TheVariants as codes
use Rattle.rx_node.proofs.OwedItems.{has_channel}
use Rattle.rx_server.specs.Handling.{enters_at, passes}
use Rattle.rx_server.specs.Server.{waits, waits_at, waits_on}

-- the call of a channel with a key
pub waits_is : (l : Looks) (key : ℕ) (ch : Channel) → IsChannel l key ch → waits_at l key ≡ waits_on l ch
waits_is l key ch at =
    ap (λ (o : Option ConnLooks). option_and_then (λ x. waits_on l (channel_in x (key % 4))) o) at.there
    ∙ ap (waits_on l) (sym at.is)

-- whether it may be given to a handler
pub enters_is : (s : Setup) (l : Looks) (key : ℕ) (ch : Channel) → IsChannel l key ch
    → enters_at s l key ≡ can_enter s l (latest_name l ch)
enters_is s l key ch at = ap (passes (can_enter s l)) (waits_is l key ch at) ∙ of (waits l (latest_name l ch)) refl
  where
    of : (b : Bool) → waits l (latest_name l ch) ≡ b
        → passes (can_enter s l) (if b then Some (latest_name l ch) else None) ≡ can_enter s l (latest_name l ch)
    of true is = refl
    of false is = ap (λ (b : Bool). b && (not s.class.challenges || is_proved l ch.connection)) (sym is)

waiting-life : (o : Option CallRecord) → is_call (λ k. is_waiting k.life) o ≡ passes is_waiting
    (option_map (λ k. k.life) o)
waiting-life None = refl
waiting-life (Some k) = refl

-- by its life, and whether the client is proved
pub enters_by : (class : List ℕ → Class) (n : NodeState) (s : Setup) (l : Looks) (key : ℕ)
    (life : Option CodeLife) (b : Bool)
    → Mirrors class n l → IsKey n key
    → ((ch : Channel) → IsChannel l key ch → option_map life_of life ≡ option_map (λ k. k.life) (latest l ch))
    → ((ch : Channel) → IsChannel l key ch
    → b ≡ (passes is_waiting (option_map life_of life) && (not s.class.challenges || is_proved l ch.connection)))
    → b ≡ enters_at s l key
enters_by class n s l key life b m is answered gives =
    let its = has_channel l key (subst (λ (k : ℕ). key / 4 < k) m.conns.conns is) in
    gives its.channel its.at
    ∙ ap (λ (w : Bool). w && (not s.class.challenges || is_proved l its.channel.connection))
    (ap (passes is_waiting) (answered its.channel its.at) ∙ sym (waiting-life (latest l its.channel)))
    ∙ sym (enters_is s l key its.channel its.at)

-- a call that doesn't wait
pub waits_not : (class : List ℕ → Class) (n : NodeState) (s : Setup) (l : Looks) (key : ℕ) (life : Option CodeLife)
    → Mirrors class n l → IsKey n key
    → ((ch : Channel) → IsChannel l key ch → option_map life_of life ≡ option_map (λ k. k.life) (latest l ch))
    → passes is_waiting (option_map life_of life) ≡ false → false ≡ enters_at s l key
waits_not class n s l key life m is answered none =
    enters_by class n s l key life false m is answered
    (λ ch at. ap (λ (b : Bool). b && (not s.class.challenges || is_proved l ch.connection)) (sym none))

-- whether a life is that of a call that waits, by an equality of lives
pub waits_by : (same : CodeLife → CodeLife → Bool) (life : Option CodeLife) (b : Bool)
    → b ≡ option_eq same life (Some codes.Waiting) → ((x : CodeLife) → same x codes.Waiting ≡ is_waiting (life_of x))
    → passes is_waiting (option_map life_of life) ≡ b
waits_by same None b is each = sym is
waits_by same (Some x) b is each = sym (is ∙ each x)
