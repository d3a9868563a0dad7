-- A channel's call is read to its end: its channel owes an ACKALL, and then it ends, where it is a client's that lives.
use Rattle.std.proofs.Common.{◌≡◌, ◌/◌, ◌%◌, ℕ, Bool, true, false, List}
use Rattle.std.proofs.Common.{Option, Some, None, option_map, refl, ◌∙◌, ap, sym, subst}
use Rattle.std.proofs.lemmas.Option.{slice_get-map}
use Rattle.rx_model.specs.declared.names.CallName.{CallName}
use Rattle.rx_model.specs.Names.{Channel, Connection}
use Rattle.rx_rules.specs.After.{owing_ackall}
use Rattle.rx_rules.specs.Classes.{Class}
use Rattle.rx_rules.specs.Life.{Life, after_end, is_calling, is_live}
use Rattle.rx_rules.specs.Life as lives
use Rattle.rx_rules.specs.Looks.{CallRecord, ConnLooks, Looks, call_named, changed_at, is_call, latest, latest_name}
use Rattle.rx_rules.specs.Looks.{on_channel, on_conn, on_life}
use Rattle.rx_rules.proofs.ConnsLaws.{KeepsConns, conn_if}
use Rattle.rx_node.specs.Mirrors.{IsChannel, Mirrors}
use Rattle.rx_node.specs.Node.{NodeState}
use Rattle.rx_node.proofs.Steps.ActiveSteps.{none_by, same_by}
use Rattle.rx_node.proofs.Steps.ChannelSteps.{number_stays}
use Rattle.rx_node.proofs.Steps.OwingSteps.{conn_if-name}
use Rattle.rx_node.proofs.ChannelChanges.{channel_same}

-- a key has the channel that it had, where a connection changes but for its name
pub channel_after : (l : Looks) (x : Connection) (f : ConnLooks → ConnLooks) (key : ℕ) (ch : Channel) → KeepsConns f
    → IsChannel l key ch → IsChannel (on_conn x f l) key ch
channel_after l x f key ch keeps at =
    record {
      conn = conn_if x f at.conn;
      there = slice_get-map (conn_if x f) l.conns (key / 4) ∙ ap (option_map (conn_if x f)) at.there;
      is = at.is
          ∙ ap (λ (y : Connection). record { connection = y; chan = key % 4 })
          (sym (conn_if-name x f at.conn keeps));
    }

ended-stays : (x : Life) → is_calling x ≡ false → after_end true x ≡ x
ended-stays lives.Calling none = absurd (cc (none))
ended-stays (lives.Ended end) none = refl
ended-stays lives.Waiting none = refl
ended-stays lives.Accepted none = refl
ended-stays lives.Finished none = refl
ended-stays (lives.Broken code) none = refl
ended-stays (lives.Over code) none = refl

-- by the life that a channel has
pub uncalled_none : (o : Option CallRecord) → None ≡ option_map (λ k. k.life) o
    → is_call (λ k. is_calling k.life) o ≡ false
uncalled_none None is = refl
uncalled_none (Some k) is = absurd (cc (is))

pub uncalled_some : (x : Life) (o : Option CallRecord) → Some x ≡ option_map (λ k. k.life) o → is_calling x ≡ false
    → is_call (λ k. is_calling k.life) o ≡ false
uncalled_some x None is none = refl
uncalled_some x (Some k) is none = (let same : x ≡ k.life = cc (is) in ap is_calling (sym same) ∙ none)

called_by : (x : Life) (o : Option CallRecord) → Some x ≡ option_map (λ k. k.life) o → is_calling x ≡ true
    → is_call (λ k. is_calling k.life) o ≡ true
called_by x None is calling = absurd (cc (is))
called_by x (Some k) is calling = (let same : x ≡ k.life = cc (is) in ap is_calling (sym same) ∙ calling)

-- what a read that answers End leaves of the channel's call
abbrev pub ended_there : Channel → Looks → Looks
ended_there ch l =
    on_life (latest_name l ch) (after_end true)
    (on_channel ch (owing_ackall (is_call (λ k. is_calling k.life) (latest l ch))) l)

module _ (class : List ℕ → Class) (n : NodeState) (l : Looks) (ch : Channel) (m : Mirrors class n l) where
  -- of another call it leaves all
  pub end_uncalled : is_call (λ k. is_calling k.life) (latest l ch) ≡ false → Mirrors class n (ended_there ch l)
  end_uncalled none =
      subst (λ (b : Bool). Mirrors class n
      (on_life (latest_name l ch) (after_end true) (on_channel ch (owing_ackall b) l)))
      (sym none)
      (subst (λ (x : Looks). Mirrors class n (on_life (latest_name l ch) (after_end true) x))
      (sym (channel_same ch (λ q. q) l (λ q. refl)))
      (of (latest l ch) refl none))
    where
      of : (p : Option CallRecord) → latest l ch ≡ p → is_call (λ k. is_calling k.life) p ≡ false
          → Mirrors class n (on_life (latest_name l ch) (after_end true) l)
      of None is none = none_by class n l ch m (λ k. record k { life = after_end true k.life }) is
      of (Some k) is none =
          same_by class n l ch m (λ k. record k { life = after_end true k.life }) k is
          (λ i. record k { life = ended-stays k.life none i })

  -- the look-ups between its two steps
  abbrev pub owed_all : Looks
  owed_all = on_channel ch (owing_ackall true) l

  name-owed : latest_name owed_all ch ≡ latest_name l ch
  name-owed = ap (λ (k : ℕ). call_named ch k) (number_stays l ch ch (owing_ackall true) (λ q. refl))

  -- of a client's call that lives
  pub end_calling : (new : NodeState) (key : ℕ) (x : Life) → IsChannel l key ch → is_calling x ≡ true
      → Some x ≡ option_map (λ k. k.life) (latest l ch)
      → (IsChannel owed_all key ch → Mirrors class new (on_life (latest_name owed_all ch) (after_end true) owed_all))
      → Mirrors class new (ended_there ch l)
  end_calling new key x at calling answered step =
      subst (λ (b : Bool). Mirrors class new
      (on_life (latest_name l ch) (after_end true) (on_channel ch (owing_ackall b) l)))
      (sym (called_by x (latest l ch) answered calling))
      (subst (λ (c : CallName). Mirrors class new (on_life c (after_end true) owed_all)) name-owed
      (step (channel_after l ch.connection
      (λ r. record r { channels = changed_at ch.chan (owing_ackall true) r.channels })
      key ch (λ r. refl) at)))
