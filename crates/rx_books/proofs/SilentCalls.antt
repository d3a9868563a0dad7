-- Silent calls end one by one, as the book of silences names them.
use Rattle.std.proofs.Common.{◌≡◌, ◌≤◌, ◌<◌, ◌+◌, ◌-◌, ◌*◌, ◌^◌, ◌&&◌, ℕ, Bool, true, false}
use Rattle.std.proofs.Common.{List, [], ◌∷◌, length, map, Option, Some, None, refl, ◌∙◌, ap, sym, subst, arith}
use Rattle.std.proofs.Common.{if◌then◌else◌, nat_le}
use Rattle.std.proofs.Math.Nat.{mul-le-mul_right}
use Rattle.std.specs.Prelude.{count_by}
use Rattle.std.specs.List.{find}
use Rattle.std.proofs.lemmas.List.Sums.{sum_by-cons}
use Rattle.std.proofs.lemmas.Bool.Decides.{nat_tests}
use Rattle.rx_due.specs.Book.{moment_of}
use Rattle.rx_due.specs.Cost.{AtMost}
use Rattle.rx_model.specs.declared.names.CallName.{CallName}
use Rattle.rx_model.specs.declared.wire.TheConstants.{SILENCE_MS}
use Rattle.rx_model.specs.Names.{channel_of, same_name}
use Rattle.rx_rules.specs.Classes.{Class}
use Rattle.rx_rules.specs.Life.{after_silence, is_active}
use Rattle.rx_rules.specs.Looks.{CallRecord, Looks, call_at, latest, latest_name, on_call}
use Rattle.rx_rules.specs.Records.{is_silent, silence_of, silenced, unless_silent}
use Rattle.rx_node.specs.Due.{death_of}
use Rattle.rx_node.specs.Mirrors.{Mirrors, StepsAt}
use Rattle.rx_node.specs.Moments.{silence_at}
use Rattle.rx_node.specs.Node.{NodeState, setup_of}
use Rattle.rx_node.proofs.CallChanges.{FoundIn, every_own, every_then, map_same}
use Rattle.rx_node.proofs.CallLoops.{live_at}
use Rattle.rx_node.proofs.LifeLaws.{live_if_active}
use Rattle.rx_node.proofs.OwedItems.{has_channel}
use Rattle.rx_books.proofs.PollSteps.{quiet_now}
use Rattle.rx_books.specs.Books.{BooksState, IsBooked}
use Rattle.rx_books.specs.Costs.{silent_count}
use Rattle.rx_books.proofs.ChannelMoments.{silence_is, silence_key}
use Rattle.rx_call.proofs.CallsAt.{one_if}

-- what a node mirrors still has to end the calls that these look-ups have to end, and for each of those that ended a
-- count of steps grew by no more than one costs
pub record Ending (class : List ℕ → Class) (n : NodeState) (l : Looks) (first steps : ℕ) : Type 0 where
  pub behind : Looks
  pub mirrors : Mirrors class n behind
  pub same : silenced behind ≡ silenced l
  pub paid : (d : ℕ) → 2 * (4 * length l.conns) + 1 < 2 ^ (d + 1)
      → (first ≤ steps) × (steps + silent_count behind * (16 * d + 21) ≤ first + silent_count l * (16 * d + 21))

-- a call that ended so ends no more
unless-twice : (now : ℕ) (k : CallRecord) → unless_silent now (unless_silent now k) ≡ unless_silent now k
unless-twice now k =
    ap (λ (b : Bool). if b then record (unless_silent now k) {
      life = after_silence (silence_of now (unless_silent now k)) (unless_silent now k).life;
    } else unless_silent now k) (quiet_now now k)

one-ended : (now : ℕ) (c : CallName) (ks : List CallRecord)
    → map (unless_silent now) (map (λ k. if same_name k.name c then unless_silent now k else k) ks)
    ≡ map (unless_silent now) ks
one-ended now c [] = refl
one-ended now c (k ∷ ks) = λ i. of (same_name k.name c) i ∷ one-ended now c ks i
  where
    of : (b : Bool) → unless_silent now (if b then unless_silent now k else k) ≡ unless_silent now k
    of true = unless-twice now k
    of false = refl

-- ---- how many are left

counted : (now : ℕ) (k : CallRecord) (ks : List CallRecord)
    → count_by (is_silent now) (k ∷ ks) ≡ one_if (is_silent now k) + count_by (is_silent now) ks
counted now k ks = sum_by-cons (λ (j : CallRecord). one_if (is_silent now j)) k ks

quiet-count : (now : ℕ) (k : CallRecord) → one_if (is_silent now (unless_silent now k)) ≡ 0
quiet-count now k = ap (λ (b : Bool). one_if b) (quiet_now now k)

-- no more are silent where one may have ended
no-more : (now : ℕ) (c : CallName) (ks : List CallRecord)
    → count_by (is_silent now) (map (λ k. if same_name k.name c then unless_silent now k else k) ks)
    ≤ count_by (is_silent now) ks
no-more now c [] = omega arith
no-more now c (k ∷ ks) =
    (let rest = no-more now c ks in
    let before = counted now k ks in
    let after = counted now (if same_name k.name c then unless_silent now k else k)
    (map (λ k. if same_name k.name c then unless_silent now k else k) ks) in
    let one = of (same_name k.name c) in
    omega (arith, rest, before, after, one))
  where
    of : (b : Bool) → one_if (is_silent now (if b then unless_silent now k else k)) ≤ one_if (is_silent now k)
    of true = (let none = quiet-count now k in omega (arith, none))
    of false = omega arith

-- one fewer is where a silent one did
one-fewer : (now : ℕ) (c : CallName) (ks : List CallRecord) (k : CallRecord)
    → find (λ j. same_name j.name c) ks ≡ Some k → is_silent now k ≡ true
    → count_by (is_silent now) (map (λ k. if same_name k.name c then unless_silent now k else k) ks) + 1
    ≤ count_by (is_silent now) ks
one-fewer now c [] k found silent = absurd (cc (found))
one-fewer now c (j ∷ js) k found silent =
    of (same_name j.name c) found (λ is. one-fewer now c js k is silent)
    (counted now (if same_name j.name c then unless_silent now j else j)
    (map (λ k. if same_name k.name c then unless_silent now k else k) js))
  where
    of : (b : Bool) → (if b then Some j else find (λ i. same_name i.name c) js) ≡ Some k
        → (find (λ i. same_name i.name c) js ≡ Some k
        → count_by (is_silent now) (map (λ k. if same_name k.name c then unless_silent now k else k) js) + 1
        ≤ count_by (is_silent now) js)
        → count_by (is_silent now) ((if b then unless_silent now j else j)
        ∷ map (λ k. if same_name k.name c then unless_silent now k else k) js)
        ≡ one_if (is_silent now (if b then unless_silent now j else j))
        + count_by (is_silent now) (map (λ k. if same_name k.name c then unless_silent now k else k) js)
        → count_by (is_silent now) ((if b then unless_silent now j else j)
        ∷ map (λ k. if same_name k.name c then unless_silent now k else k) js) + 1
        ≤ count_by (is_silent now) (j ∷ js)
    of true is rest after =
        (let same : j ≡ k = cc (is) in
        let one : one_if (is_silent now j) ≡ 1 =
        ap (λ (i : CallRecord). one_if (is_silent now i)) same ∙ ap (λ (b : Bool). one_if b) silent in
        let none = quiet-count now j in
        let more = no-more now c js in
        let before = counted now j js in
        omega (arith, one, none, more, before, after))
    of false is rest after =
        (let fewer = rest is in let before = counted now j js in omega (arith, fewer, before, after))

-- a call that died is silent
silent-by : (now : ℕ) (k : CallRecord) → is_active k.life ≡ true → k.looks.heard + SILENCE_MS ≤ now
    → is_silent now k ≡ true
silent-by now k active dead =
    let long : SILENCE_MS ≤ now - k.looks.heard = omega (arith, dead) in
    grind (arith, nat_tests, active, long)

-- so is the latest call of a channel whose moment of death passed
silent-latest : (now moment : ℕ) (o : Option CallRecord) → death_of o ≡ Some moment → moment ≤ now
    → (k : CallRecord) × ((o ≡ Some k) × (is_silent now k ≡ true))
silent-latest now moment None dies passed = absurd (cc (dies))
silent-latest now moment (Some k) dies passed =
    (elim (is_active k.life) as (λ b. is_active k.life ≡ b
    → (if b then Some (k.looks.heard + SILENCE_MS) else None) ≡ Some moment
    → (j : CallRecord) × ((Some k ≡ Some j) × (is_silent now j ≡ true))) [
      | true ↦ λ active is. (
          let same : k.looks.heard + SILENCE_MS ≡ moment = cc (is) in
          (k, (refl, silent-by now k active (omega (arith, same, passed)))))
      | false ↦ λ idle is. absurd (cc (is))
    ]) refl dies

module _ (class : List ℕ → Class) (n : NodeState) (l : Looks) where
  -- one more ended, whose moment of death passed
  pub ending_next : (z : NodeState) (key moment first steps later : ℕ) → silence_at n key ≡ Some moment
      → moment ≤ n.moment → StepsAt class n z key (λ ch l. on_call (latest_name l ch) (unless_silent l.now) l)
      → (e : Ending class n l first steps)
      → ((d : ℕ) → 2 * (4 * length n.table.conns) + 1 < 2 ^ (d + 1) → AtMost (16 * d + 21) steps later)
      → Ending class z l first later
  ending_next z key moment first steps later dies passed changes e cost =
      let its = silence_key n key moment dies in
      let ch = has_channel e.behind key (let same = e.mirrors.conns.conns in omega (arith, its, same)) in
      let conns : length n.table.conns ≡ length l.conns =
      e.mirrors.conns.conns ∙ ap (λ (x : Looks). length x.conns) e.same in
      let silent = silent-latest e.behind.now moment (latest e.behind ch.channel)
      (sym (silence_is class n e.behind e.mirrors key ch.channel ch.at) ∙ dies)
      (let now = e.mirrors.now in omega (arith, now, passed)) in
      let fewer = one-fewer e.behind.now (latest_name e.behind ch.channel) e.behind.calls silent.0 silent.1.0
      silent.1.1 in
      record {
        behind = on_call (latest_name e.behind ch.channel) (unless_silent e.behind.now) e.behind;
        mirrors = changes e.behind ch.channel e.mirrors ch.at;
        same = (λ i. record e.behind {
          calls = one-ended e.behind.now (latest_name e.behind ch.channel) e.behind.calls i;
        }) ∙ e.same;
        paid = λ d power. (
            let was = e.paid d power in
            let one = cost d (subst (λ (c : ℕ). 2 * (4 * c) + 1 < 2 ^ (d + 1)) (sym conns) power) in
            let pays = mul-le-mul_right (16 * d + 21) fewer in
            (omega (arith, was.0, one.grows), omega (arith, was.1, one.most, pays)));
      }

  -- where the book has none that passed, all have
  module _ (b : BooksState) (booked : IsBooked n b)
      (none : (key moment : ℕ) → moment_of b.silences key ≡ Some moment → n.moment < moment)
      (first steps : ℕ) (e : Ending class n l first steps) where
    later : (k : CallRecord) → FoundIn e.behind.calls k → is_active k.life ≡ true
        → e.behind.now < k.looks.heard + SILENCE_MS
    later k own active =
        let lives = live_at (setup_of class n) e.behind e.mirrors.orderly e.mirrors.roomy.differ e.mirrors.numbered k
        own.found (live_if_active k.life active) in
        let here : latest e.behind (channel_of k.name) ≡ Some k =
        ap (λ (c : CallName). call_at e.behind c) lives.latest_is ∙ own.found in
        let now = e.mirrors.now in
        let first = none lives.key (k.looks.heard + SILENCE_MS)
        ((booked.each lives.key).silence
        ∙ silence_is class n e.behind e.mirrors lives.key (channel_of k.name) lives.channel
        ∙ ap death_of here
        ∙ ap (λ (b : Bool). if b then Some (k.looks.heard + SILENCE_MS) else None) active) in
        omega (arith, now, first)

    quiet : (k : CallRecord) → FoundIn e.behind.calls k → unless_silent e.behind.now k ≡ k
    quiet k own =
        ap (λ (b : Bool). if b then record k { life = after_silence (silence_of e.behind.now k) k.life } else k)
        ((elim (is_active k.life) as (λ b. is_active k.life ≡ b
        → (b && nat_le SILENCE_MS (silence_of e.behind.now k)) ≡ false) [
          | true ↦ λ active. (
              let soon = later k own active in
              let short : e.behind.now - k.looks.heard < SILENCE_MS = omega (arith, soon) in
              grind (arith, nat_tests, short))
          | false ↦ λ idle. refl
        ]) refl)

    pub ending_done : Mirrors class n (silenced l)
    ending_done =
        subst (λ (x : Looks). Mirrors class n x)
        (sym (λ i. record e.behind {
          calls = map_same (unless_silent e.behind.now) e.behind.calls
              (every_then (FoundIn e.behind.calls) (λ k. unless_silent e.behind.now k ≡ k) e.behind.calls quiet
              (every_own e.behind.calls e.mirrors.roomy.differ)) i;
        }) ∙ e.same) e.mirrors
