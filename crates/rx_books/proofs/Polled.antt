-- What a poll answers and leaves, of a node whose silent calls ended and whose oldest stray abort went.
use Rattle.std.proofs.Common.{◌≡◌, ◌≤◌, ◌<◌, ℕ, List, drop, Option, Some, None, refl, sym, subst, arith}
use Rattle.std.specs.Prelude.{IsSomeAnd, slice_get}
use Rattle.rx_model.specs.declared.event.Event.{Event}
use Rattle.rx_model.specs.declared.names.Host.{Host}
use Rattle.rx_model.specs.declared.stray.Stray.{Stray}
use Rattle.rx_model.specs.Spelling.{made}
use Rattle.rx_model.specs.Strays.{stray_message}
use Rattle.rx_rules.specs.After.{looks}
use Rattle.rx_rules.specs.Classes.{Class}
use Rattle.rx_rules.specs.Items.{Item, items}
use Rattle.rx_rules.specs.Least.{least_by}
use Rattle.rx_rules.specs.Looks.{Looks}
use Rattle.rx_rules.specs.Records.{silenced}
use Rattle.rx_rules.specs.Setup.{FitsSetup}
use Rattle.rx_node.specs.Due.{AreDueAs, Gave, IsDueAs, unsilenced}
use Rattle.rx_node.specs.Mirrors.{Mirrors, StepsNode}
use Rattle.rx_node.specs.Node.{KeepsNode, NodeState, setup_of}
use Rattle.rx_node.specs.Steps.{StandsNode}
use Rattle.rx_node.specs.declared.item.Due.{Due}
use Rattle.rx_books.specs.Polled.{Polled}
use Rattle.rx_books.proofs.PollLeaves.{begun, begun_mirrors, dimmed_begun, dimmed_item}
use Rattle.rx_books.proofs.PollSteps.{Answered, mid_mirrors, next_later, next_none, next_now, none_silent}
use Rattle.rx_books.proofs.PollSteps.{polled_item, polled_nothing, polled_stray}

-- this is due first, of all look-ups that a node mirrors
abbrev pub IsFirstDue : (List ℕ → Class) → NodeState → Option Due → Type 0
IsFirstDue class n due =
    (l : Looks) → Mirrors class n l
    → AreDueAs (setup_of class n) l due (least_by (λ i. i.rank) (items (setup_of class n) (unsilenced l)))

-- giving it is giving that item
abbrev pub Gives : (List ℕ → Class) → NodeState → NodeState → Due → Host → List ℕ → Type 0
Gives class n new due to bytes =
    (l : Looks) (i : Item) → Mirrors class n l → IsDueAs (setup_of class n) l due i → Gave class n new l i to bytes

module _ (class : List ℕ → Class) (old n z : NodeState) (fits : FitsSetup (setup_of class n)) (kept : KeepsNode old n)
    (steps : StepsNode class old n silenced) (is : z ≡ record n { strays = drop 1 n.strays }) where
  abbrev mid : NodeState
  mid = record n { strays = drop 1 n.strays }

  module _ (h : List Event) (stands : StandsNode class old h) where
    abbrev behind : Looks
    behind = silenced (looks (setup_of class old) h)

    -- the oldest stray abort
    pub stray_polled : (to : Host) (bytes : List ℕ) → IsSomeAnd (slice_get n.strays 0) (λ x. to ≡ x.host)
        → IsSomeAnd (slice_get n.strays 0) (λ x. bytes ≡ made (stray_message x))
        → Answered class old z h (Some (to, bytes))
    stray_polled to bytes host wrote =
        subst (λ (y : NodeState). Answered class old y h (Some (to, bytes))) (sym is)
        (of (slice_get n.strays 0) refl host wrote)
      where
        of : (o : Option Stray) → slice_get n.strays 0 ≡ o → IsSomeAnd o (λ x. to ≡ x.host)
            → IsSomeAnd o (λ x. bytes ≡ made (stray_message x)) → Answered class old mid h (Some (to, bytes))
        of None there host wrote = absurd host
        of (Some x) there host wrote =
            subst (λ (a : Host). Answered class old mid h (Some (a, bytes))) (sym host)
            (polled_stray class old n (drop 1 n.strays) fits kept steps refl h stands x (sym there) bytes wrote)

    module _ (none : slice_get n.strays 0 ≡ None) where
      mirrors : Mirrors class mid behind
      mirrors = mid_mirrors class old n (drop 1 n.strays) fits kept steps refl h stands (sym none)

      -- nothing is due
      pub nothing_polled : IsFirstDue class z None → Answered class old z h None
      nothing_polled first =
          subst (λ (y : NodeState). IsFirstDue class y None → Answered class old y h None) (sym is)
          (λ least. polled_nothing class old n (drop 1 n.strays) fits kept steps refl h stands (sym none)
          (next_none (setup_of class n) behind (none_silent (looks (setup_of class old) h)) (least behind mirrors)))
          first

      -- what is due first isn't due yet
      pub later_polled : (due : Due) → IsFirstDue class z (Some due) → z.moment < due.rank → Answered class old z h None
      later_polled due first late =
          subst (λ (y : NodeState). IsFirstDue class y (Some due) → y.moment < due.rank → Answered class old y h None)
          (sym is)
          (λ least after. polled_nothing class old n (drop 1 n.strays) fits kept steps refl h stands (sym none)
          (next_later (setup_of class n) behind due (none_silent (looks (setup_of class old) h))
          (least behind mirrors) (let now : n.moment ≡ behind.now = mirrors.now in omega (arith, now, after))))
          first late

      -- it is given
      pub item_polled : (due : Due) → IsFirstDue class z (Some due) → due.rank ≤ z.moment → (new : NodeState)
          → KeepsNode z new → (to : Host) (bytes : List ℕ) → Gives class z new due to bytes
          → Answered class old new h (Some (to, bytes))
      item_polled due first soon new after to bytes gives =
          subst (λ (y : NodeState). IsFirstDue class y (Some due) → due.rank ≤ y.moment → KeepsNode y new
          → Gives class y new due to bytes → Answered class old new h (Some (to, bytes))) (sym is)
          (λ least low same given. (
          let its = next_now (setup_of class n) behind due (none_silent (looks (setup_of class old) h))
          (least behind mirrors) (let now : n.moment ≡ behind.now = mirrors.now in omega (arith, now, low)) in
          polled_item class old n (drop 1 n.strays) fits kept steps refl h stands new same (sym none) its.item its.next
          to bytes (given behind its.item mirrors its.is)))
          first soon after gives

  -- ---- what it leaves

  module _ (l : Looks) (m : Mirrors class old l) where
    -- where it gives nothing more
    pub nothing_dimmed : Polled class z l
    nothing_dimmed =
        subst (λ (y : NodeState). Polled class y l) (sym is) (dimmed_begun class n (drop 1 n.strays) l (steps l m) refl)

    -- where it gives an item
    pub item_dimmed : (due : Due) → IsFirstDue class z (Some due) → (new : NodeState) (to : Host) (bytes : List ℕ)
        → Gives class z new due to bytes → Polled class new l
    item_dimmed due first new to bytes gives =
        subst (λ (y : NodeState). IsFirstDue class y (Some due) → Gives class y new due to bytes → Polled class new l)
        (sym is)
        (λ least given. (
        let mid_is = begun_mirrors class n (drop 1 n.strays) l (steps l m) refl in
        dimmed_item class n (drop 1 n.strays) l (steps l m) refl (setup_of class n) new due to bytes _
        (least (begun l) mid_is) (λ i its. given (begun l) i mid_is its)))
        first gives
