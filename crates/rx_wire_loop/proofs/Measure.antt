-- How much a turn of a caller has left to do at most.
use Rattle.std.proofs.Common.{◌≡◌, ◌⊎◌, inl, inr, ◌+◌, ◌-◌, ◌^◌, ◌<◌, ◌≤◌, if◌then◌else◌, nat_lt, is_some, ℕ, suc, Bool}
use Rattle.std.proofs.Common.{true, false}
use Rattle.std.proofs.Common.{List, [], ◌∷◌, ◌++◌, length, take, drop, Option, Some, None, refl, sym}
use Rattle.std.proofs.Common.{subst, arith, length-append, length-drop}
use Rattle.std.proofs.lemmas.Bool.Decides.{nat_tests}
use Rattle.rx_model.specs.declared.answers.End.{End}
use Rattle.rx_model.specs.declared.answers.ReadAns.{ReadAns}
use Rattle.rx_model.specs.declared.answers.ReadAns.TheVariants as answers
use Rattle.rx_model.specs.declared.answers.ReadGot.TheVariants as readers
use Rattle.rx_model.specs.declared.answers.WroteGot.TheVariants as writers
use Rattle.rx_model.specs.declared.event.Event.{Event}
use Rattle.rx_model.specs.declared.event.Event.TheVariants as events
use Rattle.rx_asks.specs.declared.ask.Ask.{Ask}
use Rattle.rx_asks.specs.declared.ask.Ask.TheVariants as asks
use Rattle.rx_asks.specs.declared.ask.Phase.{Phase}
use Rattle.rx_asks.specs.declared.ask.Phase.TheVariants as phases
use Rattle.rx_asks.specs.declared.ask.TheConstants.{BLOCK_BYTES, REPLY_BYTES}
use Rattle.rx_asks.specs.Asks.{Asking, IsAsked, asking, begun, calling, end_after}
use Rattle.rx_asks.specs.Asks.{heard, next_ask, next_at, next_offering, phase_after}
use Rattle.rx_asks.specs.View.{CallerState}
use Rattle.rx_asks.proofs.Asked.{asked_by, next_lasts}
use Rattle.rx_wire.specs.Turns.{Runs, goes, stays}

-- by the end, where the turn stands, whether it shut, how many bytes are to be offered, and how many were read
abbrev left_by : ℕ → Option End → Phase → Bool → ℕ → ℕ → ℕ
left_by limit (Some end) phase shut offering reply = 0
left_by limit None phases.Offering shut offering reply =
    offering + (if shut then 0 else 1) + (suc limit - reply) + 3
left_by limit None phases.Reading shut offering reply = (suc limit - reply) + 2
left_by limit None phases.Resting shut offering reply = if nat_lt limit reply then 1 else 0

-- of a caller
abbrev left_of : ℕ → CallerState → ℕ
left_of limit v = left_by limit v.end v.phase v.shut (length v.offering) (length v.reply)

-- ---- at rest little is left

rest-low : (limit reply : ℕ) → (if nat_lt limit reply then 1 else 0) < 2
rest-low limit reply = of (nat_lt limit reply)
  where
    of : (b : Bool) → (if b then 1 else 0) < 2
    of true = omega arith
    of false = omega arith

-- ---- an offer

some-block : (x : ℕ) (xs : List ℕ) → 1 ≤ length (take BLOCK_BYTES (x ∷ xs))
some-block x xs = omega arith

offer-smaller : (limit : ℕ) (end : Option End) (phase : Phase) (shut : Bool) (offering : List ℕ) (reply offered : ℕ)
    (bytes : List ℕ) → is_some end ≡ false → phase ≡ phases.Offering → 1 ≤ offered → 1 ≤ length offering
    → left_by limit end (if nat_lt (length bytes) offered then phases.Reading else phase) shut
    (length (drop (length bytes) offering)) reply < left_by limit end phase shut (length offering) reply
offer-smaller limit (Some end) phase shut offering reply offered bytes lasts at some left = absurd cc
offer-smaller limit None phase shut offering reply offered bytes lasts at some left =
    subst (λ (p : Phase). left_by limit None (if nat_lt (length bytes) offered then phases.Reading else p) shut
    (length (drop (length bytes) offering)) reply < left_by limit None p shut (length offering) reply) (sym at)
    (of (nat_lt (length bytes) offered) refl)
  where
    of : (b : Bool) → nat_lt (length bytes) offered ≡ b
        → left_by limit None (if b then phases.Reading else phases.Offering) shut
        (length (drop (length bytes) offering)) reply < left_by limit None phases.Offering shut (length offering) reply
    of true is = omega arith
    of false is =
        let most : offered ≤ length bytes = grind (arith, nat_tests) in
        let drops = length-drop (length bytes) offering in
        omega arith

-- ---- a read

read-smaller : (limit : ℕ) (end : Option End) (got : ReadAns) (bytes : List ℕ) (shut : Bool) (offering reply : ℕ)
    → is_some end ≡ false → reply ≤ limit
    → left_by limit (end_after got end) (phase_after got bytes) shut offering (reply + length bytes)
    < (suc limit - reply) + 2
read-smaller limit (Some end) got bytes shut offering reply lasts within = absurd cc
read-smaller limit None answers.End bytes shut offering reply lasts within = omega arith
read-smaller limit None (answers.Gone end) bytes shut offering reply lasts within = omega arith
read-smaller limit None answers.NotYet bytes shut offering reply lasts within =
    let low = rest-low limit (reply + length bytes) in omega arith
read-smaller limit None answers.Unknown bytes shut offering reply lasts within =
    let low = rest-low limit (reply + length bytes) in omega arith
read-smaller limit None (answers.Got n) [] shut offering reply lasts within =
    let low = rest-low limit (reply + 0) in omega arith
read-smaller limit None (answers.Got n) (x ∷ xs) shut offering reply lasts within = omega arith

read-large : (limit : ℕ) (end : Option End) (phase : Phase) (shut : Bool) (offering reply : ℕ) → is_some end ≡ false
    → (phase ≡ phases.Offering) ⊎ (phase ≡ phases.Reading)
    → (suc limit - reply) + 2 ≤ left_by limit end phase shut offering reply
read-large limit (Some end) phase shut offering reply lasts at = absurd cc
read-large limit None phases.Offering shut offering reply lasts at = omega arith
read-large limit None phases.Reading shut offering reply lasts at = omega arith
read-large limit None phases.Resting shut offering reply lasts (inl at) = absurd cc
read-large limit None phases.Resting shut offering reply lasts (inr at) = absurd cc

-- ---- the end of the request, and a cancel

shut-smaller : (limit : ℕ) (end : Option End) (phase : Phase) (shut : Bool) (offering reply : ℕ) → is_some end ≡ false
    → phase ≡ phases.Offering → shut ≡ false
    → left_by limit end phase true offering reply < left_by limit end phase shut offering reply
shut-smaller limit (Some end) phase shut offering reply lasts at unshut = absurd cc
shut-smaller limit None phases.Offering true offering reply lasts at unshut = absurd cc
shut-smaller limit None phases.Offering false offering reply lasts at unshut = omega arith
shut-smaller limit None phases.Reading shut offering reply lasts at unshut = absurd cc
shut-smaller limit None phases.Resting shut offering reply lasts at unshut = absurd cc

cancel-some : (limit : ℕ) (end : Option End) (phase : Phase) (shut : Bool) (offering reply : ℕ) → is_some end ≡ false
    → nat_lt limit reply ≡ true → 0 < left_by limit end phase shut offering reply
cancel-some limit (Some end) phase shut offering reply lasts long = absurd cc
cancel-some limit None phases.Offering shut offering reply lasts long = omega arith
cancel-some limit None phases.Reading shut offering reply lasts long = omega arith
cancel-some limit None phases.Resting shut offering reply lasts long =
    subst (λ (b : Bool). 0 < (if b then 1 else 0)) (sym long) (omega arith)

-- ---- where its turn stands, by the next call

offers-at : (phase : Phase) (v : CallerState) → next_at phase v ≡ Some asks.Offer
    → (phase ≡ phases.Offering) × (1 ≤ length v.offering)
offers-at phases.Reading v is = absurd cc
offers-at phases.Resting v is = absurd cc
offers-at phases.Offering v is = (refl, of v.shut v.offering is)
  where
    of : (b : Bool) (xs : List ℕ) → Some (next_offering b xs) ≡ Some asks.Offer → 1 ≤ length xs
    of true xs is = absurd cc
    of false [] is = absurd cc
    of false (x ∷ xs) is = omega arith

shuts-at : (phase : Phase) (v : CallerState) → next_at phase v ≡ Some asks.Shut
    → (phase ≡ phases.Offering) × (v.shut ≡ false)
shuts-at phases.Reading v is = absurd cc
shuts-at phases.Resting v is = absurd cc
shuts-at phases.Offering v is = (refl, of v.shut v.offering is)
  where
    of : (b : Bool) (xs : List ℕ) → Some (next_offering b xs) ≡ Some asks.Shut → b ≡ false
    of true xs is = absurd cc
    of false xs is = refl

reads-at : (phase : Phase) (v : CallerState) → next_at phase v ≡ Some asks.Read
    → (phase ≡ phases.Offering) ⊎ (phase ≡ phases.Reading)
reads-at phases.Offering v is = inl refl
reads-at phases.Reading v is = inr refl
reads-at phases.Resting v is = absurd cc

cancels-never : (phase : Phase) (v : CallerState) → next_at phase v ≡ Some asks.Cancel → ⊥
cancels-never phases.Reading v is = absurd cc
cancels-never phases.Resting v is = absurd cc
cancels-never phases.Offering v is = of v.shut v.offering is
  where
    of : (b : Bool) (xs : List ℕ) → Some (next_offering b xs) ≡ Some asks.Cancel → ⊥
    of true xs is = absurd cc
    of false [] is = absurd cc
    of false (x ∷ xs) is = absurd cc

cancels-long : (limit : ℕ) (v : CallerState) → next_ask limit v ≡ Some asks.Cancel
    → (is_some v.end ≡ false) × (nat_lt limit (length v.reply) ≡ true)
cancels-long limit v next = of (is_some v.end) (nat_lt limit (length v.reply)) next
  where
    of : (a b : Bool) → (if a then None else if b then Some asks.Cancel else next_at v.phase v) ≡ Some asks.Cancel
        → (a ≡ false) × (b ≡ true)
    of true b is = absurd cc
    of false true is = (refl, refl)
    of false false is = absurd (cancels-never v.phase v is)

-- ---- each event of a turn leaves less

block-some : (offering : List ℕ) → 1 ≤ length offering → 1 ≤ length (take BLOCK_BYTES offering)
block-some [] some = absurd (omega arith)
block-some (x ∷ xs) some = some-block x xs

not-above : (limit reply : ℕ) → nat_lt limit reply ≡ false → reply ≤ limit
not-above limit reply is = grind (arith, nat_tests)

offer-leaves : (limit : ℕ) (v : CallerState) (offered : ℕ) (bytes : List ℕ) → next_ask limit v ≡ Some asks.Offer
    → offered ≡ length (take BLOCK_BYTES v.offering)
    → left_by limit v.end (if nat_lt (length bytes) offered then phases.Reading else v.phase) v.shut
    (length (drop (length bytes) v.offering)) (length v.reply) < left_of limit v
offer-leaves limit v offered bytes next is =
    let stands = next_lasts limit v asks.Offer next (λ is. absurd cc) in
    let at = offers-at v.phase v stands.1 in
    offer-smaller limit v.end v.phase v.shut v.offering (length v.reply) offered bytes stands.0.open_end at.0
    (subst (λ (n : ℕ). 1 ≤ n) (sym is) (block-some v.offering at.1)) at.1

read-leaves : (limit : ℕ) (v : CallerState) (got : ReadAns) (bytes : List ℕ) → next_ask limit v ≡ Some asks.Read
    → left_by limit (end_after got v.end) (phase_after got bytes) v.shut (length v.offering)
    (length (v.reply ++ bytes)) < left_of limit v
read-leaves limit v got bytes next =
    let stands = next_lasts limit v asks.Read next (λ is. absurd cc) in
    let within = not-above limit (length v.reply) stands.0.within in
    let large = read-large limit v.end v.phase v.shut (length v.offering) (length v.reply) stands.0.open_end
    (reads-at v.phase v stands.1) in
    let small = read-smaller limit v.end got bytes v.shut (length v.offering) (length v.reply) stands.0.open_end
    within in
    subst (λ (n : ℕ). left_by limit (end_after got v.end) (phase_after got bytes) v.shut (length v.offering) n
    < left_of limit v) (sym (length-append v.reply bytes)) (below small large)
  where
    below : {a b c : ℕ} → a < b → b ≤ c → a < c
    below small large = omega arith

smaller : (limit : ℕ) (v : CallerState) (a : Asking) (e : Event) → (calling limit).asks v ≡ Some a → IsAsked a e
    → left_of limit (heard v e) < left_of limit v
smaller limit v a e asked is =
    let by = asked_by limit v a asked in
    of by.ask e by.next (subst (λ (b : Asking). IsAsked b e) (sym by.is) is)
  where
    of : (ask : Ask) (e : Event) → next_ask limit v ≡ Some ask → IsAsked (asking v ask) e
        → left_of limit (heard v e) < left_of limit v
    of asks.Offer (events.Wrote d offered (writers.Client got) bytes) next told =
        offer-leaves limit v offered bytes next told.1
    of asks.Offer _ next told = absurd told
    of asks.Shut (events.Shut d got) next told =
        let stands = next_lasts limit v asks.Shut next (λ is. absurd cc) in
        let at = shuts-at v.phase v stands.1 in
        shut-smaller limit v.end v.phase v.shut (length v.offering) (length v.reply) stands.0.open_end at.0 at.1
    of asks.Shut _ next told = absurd told
    of asks.Read (events.HasRead d most (readers.Client got) bytes) next told = read-leaves limit v got bytes next
    of asks.Read _ next told = absurd told
    of asks.Cancel (events.Cancelled d code got) next told =
        let long = cancels-long limit v next in
        cancel-some limit v.end v.phase v.shut (length v.offering) (length v.reply) long.0 long.1
    of asks.Cancel _ next told = absurd told

-- ---- so a turn has few calls

-- a turn has no more calls than it has left to do at first
few_by : (limit : ℕ) (v w : CallerState) (es : List Event) → Runs (calling limit) v es w
    → length es + left_of limit w ≤ left_of limit v
few_by limit v w es (stays at) = omega arith
few_by limit v w es (goes at a e rest to asked is more) =
    (let less : left_of limit (heard v e) < left_of limit v = smaller limit v a e asked is in
    let later : length rest + left_of limit w ≤ left_of limit (heard v e) = few_by limit (heard v e) w rest more in
    omega (arith, less, later))

left_begun : (limit : ℕ) (end : Option End) (shut : Bool) (offering reply : ℕ)
    → left_by limit end phases.Offering shut offering reply ≤ offering + limit + 5
left_begun limit (Some end) shut offering reply = omega arith
left_begun limit None true offering reply = omega arith
left_begun limit None false offering reply = omega arith

-- a turn that begins has fewer than 2^64 - 1
pub turn_few : (v w : CallerState) (es : List Event) → length v.offering < 2 ^ 63
    → Runs (calling REPLY_BYTES) (begun v) es w → length es < 2 ^ 64 - 1
turn_few v w es few runs =
    (let made : length es + left_of REPLY_BYTES w ≤ left_of REPLY_BYTES (begun v) =
    few_by REPLY_BYTES (begun v) w es runs in
    let most : left_of REPLY_BYTES (begun v) ≤ length v.offering + REPLY_BYTES + 5 =
    left_begun REPLY_BYTES v.end v.shut (length v.offering) (length v.reply) in
    let size : REPLY_BYTES ≡ 16842756 = refl in
    omega (arith, made, most, size, few))
