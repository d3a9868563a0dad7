-- What a poll answers is what the rules give, and the node stands then for the history with it.
use Rattle.std.proofs.Common.{◌≡◌, ◌≤◌, ◌<◌, ◌&&◌, ℕ, Bool, true, false, List, [], ◌∷◌, map, drop, Option, Some, None}
use Rattle.std.proofs.Common.{refl, ◌∙◌, ap, sym, subst, arith, if◌then◌else◌, inl, inr, nat_le}
use Rattle.std.specs.Prelude.{slice_get}
use Rattle.std.proofs.lemmas.Bool.Decides.{nat_tests}
use Rattle.rx_model.specs.declared.event.Event.{Event}
use Rattle.rx_model.specs.declared.event.Event.TheVariants as events
use Rattle.rx_model.specs.declared.names.Host.{Host}
use Rattle.rx_model.specs.declared.stray.Stray.{Stray}
use Rattle.rx_model.specs.declared.wire.TheConstants.{SILENCE_MS}
use Rattle.rx_model.specs.Names.{connection_of}
use Rattle.rx_model.specs.Spelling.{made}
use Rattle.rx_model.specs.Strays.{stray_message}
use Rattle.rx_rules.specs.After.{after, counted, given_body, looks}
use Rattle.rx_rules.specs.Classes.{Class}
use Rattle.rx_rules.specs.Items.{Item, datagram_for, datagram_on, items, message_on, next_item, poll_answer, poll_with}
use Rattle.rx_rules.specs.Least.{least_by}
use Rattle.rx_rules.specs.Life.{after_silence}
use Rattle.rx_rules.specs.Looks.{CallRecord, Looks, conn_at}
use Rattle.rx_rules.specs.Records.{is_silent, silence_of, silenced, unless_silent}
use Rattle.rx_rules.specs.Rules.{Allowed, AllowedAt, Legal}
use Rattle.rx_rules.specs.Setup.{Kind, Server, Client, Setup, FitsSetup}
use Rattle.rx_rules.proofs.EveryLaws.{Every}
use Rattle.rx_history.proofs.Given.Givings.{poll_gives}
use Rattle.rx_history.proofs.Given.GivingItems.{item_leaves, stray_leaves}
use Rattle.rx_node.specs.Due.{AreDueAs, Gave, IsDueAs, unsilenced}
use Rattle.rx_node.specs.Mirrors.{Mirrors, StepsNode}
use Rattle.rx_node.specs.Node.{KeepsNode, NodeState, setup_of}
use Rattle.rx_node.specs.Steps.{StandsNode}
use Rattle.rx_node.specs.declared.item.Due.{Due}
use Rattle.rx_books.proofs.DueMoment.{NoneSilent, items_same}
use Rattle.rx_node.proofs.KeptKeys.{kept_setup}
use Rattle.rx_node.proofs.LeastItems.{least_within, within_rank}
use Rattle.rx_node.proofs.Steps.MomentSteps.{ended_idle}
use Rattle.rx_node.proofs.Steps.SmallSteps.{mirrors_strays}

-- ---- silent calls ended

pub quiet_now : (now : ℕ) (k : CallRecord) → is_silent now (unless_silent now k) ≡ false
quiet_now now k =
    (elim (is_silent now k) as (λ b. is_silent now k ≡ b
    → is_silent now (if b then record k { life = after_silence (silence_of now k) k.life } else k) ≡ false) [
      | true ↦ λ is. ap (λ (b : Bool). b && nat_le SILENCE_MS (silence_of now k)) (ended_idle (silence_of now k) k.life)
      | false ↦ λ is. is
    ]) refl

-- none of a node's is
pub none_silent : (l : Looks) → NoneSilent (silenced l)
none_silent l = of l.calls
  where
    of : (ks : List CallRecord) → Every (λ k. is_silent l.now k ≡ false) (map (unless_silent l.now) ks)
    of [] = tt
    of (k ∷ ks) = (quiet_now l.now k, of ks)

-- ---- the next item

next-within : (s : Setup) (l : Looks) → NoneSilent l
    → next_item s l ≡ within_rank (λ i. i.rank) l.now (least_by (λ i. i.rank) (items s (unsilenced l)))
next-within s l none =
    least_within (λ i. i.rank) l.now (items s l)
    ∙ ap (λ (is : List Item). within_rank (λ i. i.rank) l.now (least_by (λ i. i.rank) is)) (sym (items_same s l none))

-- nothing is due
pub next_none : (s : Setup) (l : Looks) → NoneSilent l
    → AreDueAs s l None (least_by (λ i. i.rank) (items s (unsilenced l))) → next_item s l ≡ None
next_none s l none as_ = next-within s l none ∙ of (least_by (λ i. i.rank) (items s (unsilenced l))) as_
  where
    of : (o : Option Item) → AreDueAs s l None o → within_rank (λ i. i.rank) l.now o ≡ None
    of None as_ = refl
    of (Some i) as_ = absurd as_

-- nothing is due now
pub next_later : (s : Setup) (l : Looks) (due : Due) → NoneSilent l
    → AreDueAs s l (Some due) (least_by (λ i. i.rank) (items s (unsilenced l))) → l.now < due.rank
    → next_item s l ≡ None
next_later s l due none as_ late = next-within s l none ∙ of (least_by (λ i. i.rank) (items s (unsilenced l))) as_
  where
    of : (o : Option Item) → AreDueAs s l (Some due) o → within_rank (λ i. i.rank) l.now o ≡ None
    of None as_ = absurd as_
    of (Some i) as_ =
        (let rank : due.rank ≡ i.rank = as_.rank in
        let later : l.now < i.rank = omega arith in
        let not : nat_le i.rank l.now ≡ false = grind (arith, nat_tests, later) in
        ap (λ (b : Bool). if b then Some i else None) not)

-- this one is due now
pub record DueNow (s : Setup) (l : Looks) (due : Due) : Type 0 where
  pub item : Item
  pub is : IsDueAs s l due item
  pub next : next_item s l ≡ Some item

pub next_now : (s : Setup) (l : Looks) (due : Due) → NoneSilent l
    → AreDueAs s l (Some due) (least_by (λ i. i.rank) (items s (unsilenced l))) → due.rank ≤ l.now → DueNow s l due
next_now s l due none as_ low = of (least_by (λ i. i.rank) (items s (unsilenced l))) refl as_
  where
    of : (o : Option Item) → least_by (λ i. i.rank) (items s (unsilenced l)) ≡ o → AreDueAs s l (Some due) o
        → DueNow s l due
    of None least as_ = absurd as_
    of (Some i) least as_ =
        (let rank : due.rank ≡ i.rank = as_.rank in
        let soon : i.rank ≤ l.now = omega arith in
        let within : nat_le i.rank l.now ≡ true = grind (arith, nat_tests, soon) in
        record {
          item = i;
          is = as_;
          next = next-within s l none ∙ ap (within_rank (λ i. i.rank) l.now) least
              ∙ ap (λ (b : Bool). if b then Some i else None) within;
        })

-- ---- a poll

polled-allowed : (s : Setup) (l : Looks) (got : Option (Host × List ℕ)) → got ≡ poll_answer s l
    → Allowed s l (events.Polled got)
polled-allowed s l got is = of s.kind
  where
    of : (kind : Kind) → AllowedAt kind s l (events.Polled got)
    of (Server service nonces) = is
    of (Client host epoch) = is

first-is : (xs : List Stray) (x : Stray) → Some x ≡ slice_get xs 0 → xs ≡ x ∷ drop 1 xs
first-is [] x is = absurd (cc (is))
first-is (y ∷ ys) x is = (let same : y ≡ x = cc (is) in ap (λ (z : Stray). z ∷ ys) same)

none-is : (xs : List Stray) → None ≡ slice_get xs 0 → xs ≡ []
none-is [] is = refl
none-is (y ∷ ys) is = absurd (cc (is))

-- what a node answers, of which it then stands for the history
abbrev pub Answered : (List ℕ → Class) → NodeState → NodeState → List Event → Option (Host × List ℕ) → Type 0
Answered class old new h got =
    Allowed (setup_of class old) (looks (setup_of class old) h) (events.Polled got)
    × StandsNode class new (events.Polled got ∷ h)

module _ (class : List ℕ → Class) (old n : NodeState) (strays : List Stray) (fits : FitsSetup (setup_of class n))
    (kept : KeepsNode old n) (steps : StepsNode class old n silenced) (dropped : strays ≡ drop 1 n.strays)
    (h : List Event)
    (stands : StandsNode class old h) where
  abbrev pub mid : NodeState
  mid = record n { strays = strays }

  abbrev s : Setup
  s = setup_of class old

  abbrev l : Looks
  l = looks s h

  abbrev pub behind : Looks
  behind = silenced (looks (setup_of class old) h)

  pub setups : setup_of class n ≡ setup_of class old
  setups = kept_setup class old n kept

  fits-old : FitsSetup s
  fits-old = subst (λ (t : Setup). FitsSetup t) setups fits

  mirrored : Mirrors class n behind
  mirrored = steps l stands.mirrors

  answers : (k : NodeState) (got : Option (Host × List ℕ)) → setup_of class k ≡ s → got ≡ poll_answer s l
      → Mirrors class k (after s (events.Polled got) l) → Answered class old k h got
  answers k got same is m =
      let allowed = polled-allowed s l got is in (
        allowed,
        record {
          legal = subst (λ (t : Setup). Legal t (events.Polled got ∷ h)) (sym same) (allowed, stands.legal);
          mirrors = subst (λ (t : Setup). Mirrors class k (looks t (events.Polled got ∷ h))) (sym same) m;
        },
      )

  -- where none was owed, it mirrors the rest with what it has
  pub mid_mirrors : None ≡ slice_get n.strays 0 → Mirrors class mid behind
  mid_mirrors none =
      let empty : n.strays ≡ [] = none-is n.strays none in
      mirrors_strays class n behind mirrored strays l.strays
      (dropped ∙ ap (drop 1) empty ∙ sym empty ∙ mirrored.strays)

  -- the oldest stray abort
  pub polled_stray : (x : Stray) → Some x ≡ slice_get n.strays 0 → (bytes : List ℕ) → bytes ≡ made (stray_message x)
      → Answered class old mid h (Some (x.host, bytes))
  polled_stray x first bytes is =
      let owed : l.strays ≡ x ∷ drop 1 n.strays = sym mirrored.strays ∙ first-is n.strays x first in
      let answer : Some (x.host, bytes) ≡ poll_answer s l =
      ap (λ (bs : List ℕ). Some (x.host, bs)) is ∙ sym (ap (poll_with s behind) owed) in
      let gives = poll_gives s h fits-old stands.legal x.host bytes (sym answer) in
      answers mid (Some (x.host, bytes)) setups answer
      (elim gives.owed as (λ o. Mirrors class mid (after s (events.Polled (Some (x.host, bytes))) l)) [
        | inl stray ↦ subst (λ (k : Looks). Mirrors class mid k)
            (sym (stray_leaves s l x.host bytes gives.message stray gives.read))
            (mirrors_strays class n behind mirrored strays (drop 1 l.strays) (dropped ∙ ap (drop 1) mirrored.strays))
        | inr item ↦ (let none = item.owed in absurd (cc (none, owed)))
      ])

  -- nothing
  pub polled_nothing : None ≡ slice_get n.strays 0 → next_item (setup_of class n) behind ≡ None
      → Answered class old mid h None
  polled_nothing none next =
      let empty : l.strays ≡ [] = sym mirrored.strays ∙ none-is n.strays none in
      answers mid None setups
      (sym (ap (poll_with s behind) empty
      ∙ ap (datagram_for s behind) (ap (λ (t : Setup). next_item t behind) (sym setups) ∙ next)))
      (mid_mirrors none)

  -- an item
  pub polled_item : (new : NodeState) → KeepsNode mid new → None ≡ slice_get n.strays 0 → (i : Item)
      → next_item (setup_of class n) behind ≡ Some i → (to : Host) (bytes : List ℕ)
      → Gave class mid new behind i to bytes → Answered class old new h (Some (to, bytes))
  polled_item new after_ none i next to bytes gave =
      let empty : l.strays ≡ [] = sym mirrored.strays ∙ none-is n.strays none in
      let its : next_item s behind ≡ Some i = ap (λ (t : Setup). next_item t behind) (sym setups) ∙ next in
      let wrote : bytes ≡ made (message_on s i gave.conn) =
      gave.written ∙ ap (λ (t : Setup). made (message_on t i gave.conn)) setups in
      let answer : Some (to, bytes) ≡ poll_answer s l =
      (λ t. Some (gave.host t, wrote t))
      ∙ sym (ap (poll_with s behind) empty ∙ ap (datagram_for s behind) its ∙ ap (datagram_on s i) gave.there) in
      let gives = poll_gives s h fits-old stands.legal to bytes (sym answer) in
      answers new (Some (to, bytes)) (kept_setup class mid new after_ ∙ setups) answer
      (elim gives.owed as (λ o. Mirrors class new (after s (events.Polled (Some (to, bytes))) l)) [
        | inl stray ↦ (let some = stray.owed in absurd (cc (some, empty)))
        | inr item ↦ (
            let one : item.item ≡ i = (let both = sym item.next ∙ its in cc (both)) in
            let conn : item.conn ≡ gave.conn = (
            let both = sym item.there ∙ ap (λ (j : Item). conn_at l (connection_of j.name)) one ∙ gave.there in
            cc (both)) in
            let message : gives.message ≡ message_on s i gave.conn = item.is ∙ (λ t. message_on s (one t) (conn t)) in
            subst (λ (k : Looks). Mirrors class new k)
            (sym (item_leaves s h fits-old stands.legal to bytes gives.message item gives.read
            ∙ (λ t. given_body (one t).name (message t) (message t).body
            (counted (connection_of (one t).name) behind))))
            (subst (λ (t : Setup).
            Mirrors class new (given_body i.name (message_on t i gave.conn) i.body
            (counted (connection_of i.name) behind)))
            setups gave.leaves))
      ])
