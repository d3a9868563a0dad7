-- Datagrams that a joiner takes.
use Rattle.std.proofs.Common.{◌≡◌, ◌<◌, ◌≤◌, ◌∙◌, ◌+◌, ◌-◌, ◌&&◌, ℕ, zero, suc, List, [], ◌∷◌, Bool}
use Rattle.std.proofs.Common.{true, false}
use Rattle.std.proofs.Common.{Option, Some, None, Result, Err, refl, sym, subst, ap, arith, add-one, drop}
use Rattle.std.proofs.Common.{take, length}
use Rattle.std.proofs.Common.{nat_le, inr}
use Rattle.std.specs.Result.{IsErr, IsErrAnd}
use Rattle.std.proofs.lemmas.Bool.Decides.{nat_tests}
use Rattle.rx_model.specs.declared.names.Host.{Host}
use Rattle.rx_law.specs.Worlds.{Datagram}
use Rattle.rx_jumbo.specs.JoinerState.{JoinerState}
use Rattle.rx_jumbo.specs.declared.sizes.TheConstants.{JUMBO_PARTS}
use Rattle.rx_script.specs.declared.outcome.PlanWhy.TheVariants as causes
use Rattle.rx_stage.specs.LinesPlayed.{Found}
use Rattle.rx_plan.specs.Finds.{at_packet, numbered}
use Rattle.rx_plan.specs.Lines.{can_join, joins_all, joins_to, jumbo_line, packets_in}
use Rattle.rx_plan.specs.Network.{delivers}
use Rattle.rx_plan.specs.Parts.{Cut, Refused, by_test, each, ends}
use Rattle.rx_stage.specs.Ran.{stop_of}
use Rattle.rx_stage.specs.Shown.{Plays, Shows, WorldState}
use Rattle.rx_plan.specs.Stages.{Stage}
use Rattle.rx_stage.specs.Tells.{Told}
use Rattle.rx_stage.specs.declared.stop.Stop.{Stop}
use Rattle.rx_stage.specs.declared.stop.Stop.TheVariants as stops
use Rattle.rx_stage.proofs.Delivering.{delivers_cut}
use Rattle.rx_stage.proofs.Keeping.{packets_shown}
use Rattle.rx_stage.proofs.Making.{each_cut, found_goes, names_none, where_fails}
use Rattle.rx_stage.proofs.Running.{ran_refused}

-- ---- a joiner

-- the host of an empty joiner doesn't count
joins_any : (most : ℕ) (a b : Host) (ds : List Datagram)
    → joins_all (record { most = most; host = a; datagrams = [] }) ds
    ≡ joins_all (record { most = most; host = b; datagrams = [] }) ds
joins_any most a b [] = refl
joins_any most a b (d ∷ ds) = refl

-- a new joiner
pub joiner_begun : (j : JoinerState) (ds : List Datagram) → j.most ≡ JUMBO_PARTS → j.datagrams ≡ []
    → joins_all j ds ≡ can_join ds
joiner_begun j ds most none =
    ap (λ m. joins_all (record { most = m; host = j.host; datagrams = j.datagrams }) ds) most
    ∙ ap (λ xs. joins_all (record { most = JUMBO_PARTS; host = j.host; datagrams = xs }) ds) none
    ∙ joins_any JUMBO_PARTS j.host (record { addr = 0; port = 0 }) ds

-- ---- datagrams from one place to another

-- what stands at a place
pub record At (ds : List Datagram) (k : ℕ) : Type 0 where
  pub it : Datagram
  pub is : numbered ds k ≡ Some it

at_place : (ds : List Datagram) (place : ℕ) → place < length ds → At ds (suc place)
at_place [] place less = absurd (omega (arith, less))
at_place (d ∷ ds) zero less = record { it = d; is = refl }
at_place (d ∷ ds) (suc place) less =
    (let a : At ds (suc place) = at_place ds place (omega (arith, less)) in record { it = a.it; is = a.is })

pub place_found : (ds : List Datagram) (place k : ℕ) → place < length ds → place + 1 ≡ k → At ds k
place_found ds place k less is = subst (At ds) (sym (add-one place) ∙ is) (at_place ds place less)

-- a datagram that isn't there
pub packet_lacks : (w : WorldState) (k : ℕ) (stop : Stop)
    → (numbered w.packets k ≡ None) × (stop ≡ stops.Refused causes.NoPacket) → (s : Stage) → Shows w s
    → Found (numbered s.packets k) causes.NoPacket (Err stop)
packet_lacks w k stop (none, why) s shown = (ap (λ ps. numbered ps k) (packets_shown w s shown) ∙ none, why)

module _ (first last from to : ℕ) (w new : WorldState) (stop : Option Stop) (a b : Told) where
  -- the part behind the first
  pub joins_behind : from + 1 ≡ first → to + 1 ≡ last → from < length w.packets → to < length w.packets
      → Plays (joins_to (from + 1) (to + 1)) w new stop a b → Plays (jumbo_line first last) w new stop a b
  joins_behind is_from is_to there_from there_to plays =
      (let x : At w.packets first = place_found w.packets from first there_from is_from in
      let y : At w.packets last = place_found w.packets to last there_to is_to in
      found_goes causes.NoPacket (λ _. at_packet last (λ _. joins_to first last)) (λ (s : Stage). numbered s.packets
      first) x.it w new
      stop a b (λ s shown. ap (λ ps. numbered ps first) (packets_shown w s shown) ∙ x.is)
      (found_goes causes.NoPacket (λ _. joins_to first last) (λ (s : Stage). numbered s.packets last) y.it w new stop a
      b
      (λ s shown. ap (λ ps. numbered ps last) (packets_shown w s shown) ∙ y.is)
      (subst (λ f. Plays (joins_to f last) w new stop a b) is_from
      (subst (λ l. Plays (joins_to (from + 1) l) w new stop a b) is_to plays))))

-- the second isn't there
pub second_lacks : (first last from : ℕ) (w new : WorldState) (r : Result (Unit {0}) Stop) (stop : Stop) (t : Told)
    → IsErr r × IsErrAnd r (λ x. x ≡ stop) → from + 1 ≡ first → from < length w.packets
    → (numbered w.packets last ≡ None) × (stop ≡ stops.Refused causes.NoPacket)
    → Plays (jumbo_line first last) w new (stop_of r) t t
second_lacks first last from w new r stop t was is there none =
    (let x : At w.packets first = place_found w.packets from first there is in
    found_goes causes.NoPacket (λ _. at_packet last (λ _. joins_to first last)) (λ (s : Stage). numbered s.packets
    first)
    x.it w new (stop_of r) t t (λ s shown. ap (λ ps. numbered ps first) (packets_shown w s shown) ∙ x.is)
    (names_none causes.NoPacket (λ _. joins_to first last) (λ (s : Stage). numbered s.packets last) w new r stop t was
    (packet_lacks w last stop none)))

-- the first isn't there
pub first_lacks : (first last : ℕ) (w new : WorldState) (r : Result (Unit {0}) Stop) (stop : Stop) (t : Told)
    → IsErr r × IsErrAnd r (λ x. x ≡ stop) → (numbered w.packets first ≡ None) × (stop ≡ stops.Refused causes.NoPacket)
    → Plays (jumbo_line first last) w new (stop_of r) t t
first_lacks first last w new r stop t was none =
    names_none causes.NoPacket (λ _. at_packet last (λ _. joins_to first last)) (λ (s : Stage). numbered s.packets
    first)
    w new r stop t was (packet_lacks w first stop none)

-- ---- whether they join

-- those of a stage are those that are kept
pub in_shown : (first last : ℕ) (w : WorldState) (s : Stage) → Shows w s
    → packets_in first last s ≡ take (suc last - first) (drop (first - 1) w.packets)
in_shown first last w s shown =
    ap (λ ps. take (suc last - first) (drop (first - 1) ps)) (packets_shown w s shown)

-- the same from places
pub slice_is : (from to : ℕ) (xs ps : List Datagram) → xs ≡ ps
    → take (to + 1 - from) (drop from xs) ≡ take (suc (to + 1) - (from + 1)) (drop (from + 1 - 1) ps)
slice_is from to xs ps same =
    (let many : to + 1 - from ≡ suc (to + 1) - (from + 1) = omega arith in
    let first : from ≡ from + 1 - 1 = omega arith in
    ap (λ n. take n (drop from xs)) many ∙ ap (λ n. take (suc (to + 1) - (from + 1)) (drop n xs)) first
    ∙ ap (λ ys. take (suc (to + 1) - (from + 1)) (drop (from + 1 - 1) ys)) same)

not_le : (from to : ℕ) → to < from → nat_le (from + 1) (to + 1) ≡ false
not_le from to back = grind (arith, nat_tests)

is_le : (from to : ℕ) → from ≤ to → nat_le (from + 1) (to + 1) ≡ true
is_le from to on = grind (arith, nat_tests)

-- places in the wrong order
pub order_fails : (from to : ℕ) (b : Bool) → to < from → (nat_le (from + 1) (to + 1) && b) ≡ false
order_fails from to b back = ap (λ v. v && b) (not_le from to back)

-- in the right order it is what the joiner says
pub order_holds : (from to : ℕ) (b : Bool) → from ≤ to → (nat_le (from + 1) (to + 1) && b) ≡ b
order_holds from to b on = ap (λ v. v && b) (is_le from to on)

-- memory was wanted first
pub joins_cut : (first last : ℕ) (s : Stage) → joins_to first last s [] Cut
joins_cut first last s = of (nat_le first last && can_join (packets_in first last s))
  where
    of : (b : Bool) → by_test b (each delivers (packets_in first last s) s) (ends (Refused causes.Jumbo)) [] Cut
    of true = each_cut delivers delivers_cut (packets_in first last s) s
    of false = (refl, inr refl)

-- they don't
pub joins_fail : (first last : ℕ) (w : WorldState) (t : Told)
    → (nat_le first last && can_join (take (suc last - first) (drop (first - 1) w.packets))) ≡ false
    → Plays (joins_to first last) w w (Some (stops.Refused causes.Jumbo)) t t
joins_fail first last w t fails =
    where_fails (λ s. nat_le first last && can_join (packets_in first last s))
    (λ s. each delivers (packets_in first last s) s) (λ s. ends (Refused causes.Jumbo)) w w
    (Some (stops.Refused causes.Jumbo)) t t
    (λ s shown. ap (λ ps. nat_le first last && can_join ps) (in_shown first last w s shown) ∙ fails)
    (λ s shown. ran_refused (Shows w) causes.Jumbo t)
