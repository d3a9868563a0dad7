-- How much room there is for what an end says: none behind a write that took all of it, some where the end is drained
-- and holds no piece; and where there is none a piece counts that isn't acknowledged.
use Rattle.std.proofs.Common.{◌≡◌, ◌⊎◌, inl, inr, ◌≤◌, ◌<◌, ◌+◌, ◌-◌, ◌*◌, ◌/◌, ◌==◌, ◌||◌, ℕ, zero, suc, min, cond}
use Rattle.std.proofs.Common.{Bool, true, false, List, [], ◌∷◌, length, Option, Some, refl, ap, sym, subst, ◌∙◌, arith}
use Rattle.std.proofs.Common.{is_some, nat_lt, length-append}
use Rattle.std.specs.List.{find}
use Rattle.std.proofs.lemmas.Bool.Decides.{nat_tests}
use Rattle.rx_model.specs.declared.names.CallName.{CallName}
use Rattle.rx_model.specs.Names.{same_name}
use Rattle.rx_model.proofs.NameLaws.{name_is, name_itself, number_itself}
use Rattle.rx_rules.specs.CallLooks.{CallLooks, after_write, held, lead}
use Rattle.rx_rules.specs.Life.{Life, is_active, is_live}
use Rattle.rx_rules.specs.Life as lives
use Rattle.rx_rules.specs.Looks.{CallRecord, Looks, call_at, on_looks}
use Rattle.rx_rules.specs.Received.{Packet, count_above, front_of, packet_at, used_of}
use Rattle.rx_rules.specs.Sent.{counting_by, counting_of, held_pieces, openable, opened, pieces_by}
use Rattle.rx_rules.specs.Setup.{FitsLimits, Setup, sending_window, shared_slots}
use Rattle.rx_rules.specs.Slots.{beside, beside_all, common, left_slots, room}
use Rattle.rx_rules.proofs.EveryLaws.{Every}
use Rattle.rx_rules.proofs.FindLaws.{find_passes}
use Rattle.rx_rules.proofs.PacketLaws.{front_all}
use Rattle.rx_history.proofs.Differ.{Differ, by_name, every_found}
use Rattle.rx_history.proofs.OneCall.{common_one}
use Rattle.rx_history.proofs.Reaches.{count_passes}
use Rattle.rx_history.proofs.Room.RoomStarts.{RoomyAt}
use Rattle.rx_closing.proofs.Ends.Least.{min_first, min_is, min_second, min_third}
use Rattle.rx_rounds.proofs.Room.{lead_low}

-- ---- in numbers

-- so many bytes are within the pieces that they open
pub within_opened : (n : ℕ) → n ≤ 1412 * opened n
within_opened n = omega arith

-- a write that took all the room fills its last piece
filled : (n q : ℕ) → opened (n + (1412 * (opened n + q) - n)) ≡ opened n + q
filled n q = of (opened n) (within_opened n)
  where
    of : (o : ℕ) → n ≤ 1412 * o → opened (n + (1412 * (o + q) - n)) ≡ o + q
    of o within =
        let all : n + (1412 * (o + q) - n) ≡ 1412 * (o + q) = omega arith in
        ap opened all ∙ whole (o + q)
      where
        whole : (m : ℕ) → opened (1412 * m) ≡ m
        whole m = omega arith

module _ (most common_ common2 packets open_ e e2 : ℕ) where
  -- what is left in common behind it is none, by the slots in common before and behind, those of the call, and their
  -- leads
  none_common : (q : ℕ) → common_ ≤ most → e ≤ packets + open_ → e ≤ 1
      → common2 + (packets + open_ - e) ≡ common_ + (packets + (open_ + q) - e2) → (0 < q → e2 ≡ 1) → (q ≡ 0 → e2 ≡ e)
      → q ≡ most - common_ + 1 - e → most - common2 + 1 - e2 ≡ 0
  none_common zero low holds one sum leads same is =
      let lead_ : e2 ≡ e = same refl in
      let still : common2 ≡ common_ = omega arith in
      omega arith
  none_common (suc q) low holds one sum leads same is =
      let lead_ : e2 ≡ 1 = leads (omega arith) in
      let all : common2 + (packets + open_ - e) ≡ common_ + (packets + open_ + q) = omega arith in
      let held_ : common2 + (packets + open_) ≡ common_ + (packets + open_ + q) + e = omega arith in
      let full : common2 ≡ most = omega arith in
      omega arith

-- ---- slots

-- a lead is held
pub lead_held : (k : CallLooks) → lead k ≤ held k
lead_held k = by (nat_lt (used_of k.received) (front_of k.received.kept)) (nat_lt 0 (held_pieces k.sent)) refl refl
  where
    by : (front piece : Bool) → nat_lt (used_of k.received) (front_of k.received.kept) ≡ front
        → nat_lt 0 (held_pieces k.sent) ≡ piece → cond (front || piece) 1 0 ≤ held k
    by true piece is more =
        let less : used_of k.received < front_of k.received.kept = grind (arith, nat_tests) in
        let one =
        count_passes k.received.kept (used_of k.received) (suc (used_of k.received)) (suc (used_of k.received))
        (omega arith) (omega arith) (front_all k.received.kept (used_of k.received) less) in
        elim piece as (λ b. cond (true || b) 1 0 ≤ held k) [ true ↦ omega arith | false ↦ omega arith ]
    by false true is more = (let some : 0 < held_pieces k.sent = grind (arith, nat_tests) in omega arith)
    by false false is more = omega arith

-- a drained end that holds no piece has no lead
pub no_lead : (k : CallLooks) → used_of k.received ≡ front_of k.received.kept → held_pieces k.sent ≡ 0 → lead k ≡ 0
no_lead k drained none =
    let front : nat_lt (used_of k.received) (front_of k.received.kept) ≡ false = grind (arith, nat_tests) in
    let piece : nat_lt 0 (held_pieces k.sent) ≡ false = grind (arith, nat_tests) in
    rw (front, piece) refl

-- one that holds a piece has
pub piece_leads : (k : CallLooks) → 0 < held_pieces k.sent → lead k ≡ 1
piece_leads k some =
    let piece : nat_lt 0 (held_pieces k.sent) ≡ true = grind (arith, nat_tests) in
    rw piece (either (nat_lt (used_of k.received) (front_of k.received.kept)))
  where
    either : (b : Bool) → ◌≡◌ {A = ℕ} (cond (b || true) 1 0) 1
    either true = refl
    either false = refl

-- ---- a write that took all the room

module _ (s : Setup) (l : Looks) (c : CallName) (r : CallRecord) (bytes : List ℕ) where
  abbrev k : CallLooks
  k = r.looks

  abbrev n : ℕ
  n = length k.sent.said

  abbrev more : ℕ
  more = left_slots s l + 1 - lead k

  abbrev q : ℕ
  q = openable (sending_window s) more (opened n) k.sent.acked

  abbrev k2 : CallLooks
  k2 = after_write bytes k

  abbrev l2 : Looks
  l2 = on_looks c (after_write bytes) l

  -- none is left behind it
  pub room_spent : RoomyAt s l → call_at l c ≡ Some r → is_active r.life ≡ true → k.sent.shut ≡ false
      → k.sent.acked ≤ opened n → length bytes ≡ room s l k → room s l2 k2 ≡ 0
  room_spent roomy there active unshut known took =
      let long : length k2.sent.said ≡ n + (1412 * (opened n + q) - n) =
      length-append k.sent.said bytes ∙ ap (λ (m : ℕ). n + m) took in
      let opens : opened (length k2.sent.said) ≡ opened n + q = ap opened long ∙ filled n q in
      let whole : length k2.sent.said ≡ 1412 * (opened n + q) =
      long ∙ (let within = within_opened n in omega arith) in
      let none : openable (sending_window s) more2 (opened n + q) k.sent.acked ≡ 0 =
      by (min_is (sending_window s - (opened n - k.sent.acked)) more (4294967294 - opened n)) opens in
      let all : room s l2 k2 ≡ 1412 * (opened n + q + 0) - 1412 * (opened n + q) =
      ap (λ (m : ℕ). 1412 * (m + openable (sending_window s) more2 m k.sent.acked) - length k2.sent.said) opens
      ∙ ap (λ (m : ℕ). 1412 * (opened n + q + m) - length k2.sent.said) none
      ∙ ap (λ (m : ℕ). 1412 * (opened n + q + 0) - m) whole in
      all ∙ omega arith
    where
      more2 : ℕ
      more2 = left_slots s l2 + 1 - lead k2

      by : (q ≡ sending_window s - (opened n - k.sent.acked)) ⊎ ((q ≡ more) ⊎ (q ≡ 4294967294 - opened n))
          → opened (length k2.sent.said) ≡ opened n + q
          → openable (sending_window s) more2 (opened n + q) k.sent.acked ≡ 0
      by (inl window) opens =
          min_first (sending_window s - (opened n + q - k.sent.acked)) more2 (4294967294 - (opened n + q)) (omega arith)
      by (inr (inr last)) opens =
          min_third (sending_window s - (opened n + q - k.sent.acked)) more2 (4294967294 - (opened n + q)) (omega arith)
      by (inr (inl slots)) opens =
          let packets : ℕ = count_above (used_of k.received) k.received.kept in
          let holds : held k ≡ packets + (opened n - k.sent.acked) =
          ap (λ (b : Bool). packets + (pieces_by n b - k.sent.acked)) unshut in
          let holds2 : held k2 ≡ packets + (opened n + q - k.sent.acked) =
          ap (λ (b : Bool). packets + (pieces_by (length k2.sent.said) b - k.sent.acked)) unshut
          ∙ ap (λ (m : ℕ). packets + (m - k.sent.acked)) opens in
          let pieces : held_pieces k.sent ≡ opened n - k.sent.acked =
          ap (λ (b : Bool). pieces_by n b - k.sent.acked) unshut in
          let pieces2 : held_pieces k2.sent ≡ opened n + q - k.sent.acked =
          ap (λ (b : Bool). pieces_by (length k2.sent.said) b - k.sent.acked) unshut
          ∙ ap (λ (m : ℕ). m - k.sent.acked) opens in
          let first : beside r ≡ packets + (opened n - k.sent.acked) - lead k =
          ap (λ (b : Bool). cond b (held k - lead k) 0) active ∙ ap (λ (m : ℕ). m - lead k) holds in
          let second : beside (record r { looks = k2 }) ≡ packets + (opened n + q - k.sent.acked) - lead k2 =
          ap (λ (b : Bool). cond b (held k2 - lead k2) 0) active ∙ ap (λ (m : ℕ). m - lead k2) holds2 in
          let sum : common l2 + beside r ≡ common l + beside (record r { looks = k2 }) =
          common_one c (λ j. record j { looks = after_write bytes j.looks }) l r roomy.differ there in
          let split : opened n + q - k.sent.acked ≡ opened n - k.sent.acked + q = omega (arith, known) in
          let sums : common l2 + (packets + (opened n - k.sent.acked) - lead k)
          ≡ common l + (packets + (opened n - k.sent.acked + q) - lead k2) =
          ap (λ (m : ℕ). common l2 + m) (sym first) ∙ sum ∙ ap (λ (m : ℕ). common l + m) second
          ∙ ap (λ (m : ℕ). common l + (packets + m - lead k2)) split in
          let leads : 0 < q → lead k2 ≡ 1 = λ some. piece_leads k2 (omega (arith, some, known, pieces2)) in
          let same : q ≡ 0 → lead k2 ≡ lead k = λ none. (
          let still : held_pieces k2.sent ≡ held_pieces k.sent = pieces2 ∙ omega (arith, none) ∙ sym pieces in
          ap (λ (m : ℕ). cond (nat_lt (used_of k.received) (front_of k.received.kept) || nat_lt 0 m) 1 0) still) in
          let few : lead k ≤ packets + (opened n - k.sent.acked) =
          subst (λ (m : ℕ). lead k ≤ m) holds (lead_held k) in
          let none : more2 ≡ 0 =
          none_common (shared_slots s) (common l) (common l2) packets (opened n - k.sent.acked) (lead k) (lead k2) q
          roomy.within few (lead_low k) sums leads same slots in
          min_second (sending_window s - (opened n + q - k.sent.acked)) more2 (4294967294 - (opened n + q)) none

-- ---- an end that is drained and holds no piece

free_numbers : (n window more last : ℕ) → 1 ≤ window → 1 ≤ more → 1 ≤ last
    → 1 ≤ 1412 * (opened n + min (min window more) last) - n
free_numbers n window more last wide some left_ = of (opened n) (within_opened n)
  where
    of : (o : ℕ) → n ≤ 1412 * o → 1 ≤ 1412 * (o + min (min window more) last) - n
    of o within = (let one : 1 ≤ min (min window more) last = omega arith in omega arith)

-- it has room, by its own slot
pub room_free : (s : Setup) (l : Looks) (k : CallLooks) → 1 ≤ s.limits.window
    → used_of k.received ≡ front_of k.received.kept → held_pieces k.sent ≡ 0 → k.sent.shut ≡ false
    → opened (length k.sent.said) < 4294967294 → 1 ≤ room s l k
room_free s l k wide drained none unshut small =
    let n : ℕ = length k.sent.said in
    let leadless : lead k ≡ 0 = no_lead k drained none in
    let pieces : opened n - k.sent.acked ≡ 0 =
    sym (ap (λ (b : Bool). pieces_by n b - k.sent.acked) unshut) ∙ none in
    let open_ : 1 ≤ sending_window s - (opened n - k.sent.acked) = omega (arith, wide, pieces) in
    let own : 1 ≤ left_slots s l + 1 - lead k = omega (arith, leadless) in
    free_numbers n (sending_window s - (opened n - k.sent.acked)) (left_slots s l + 1 - lead k) (4294967294 - opened n)
    open_ own (omega (arith, small))

-- ---- an end that has no room

module _ (d : CallName) where
  abbrev called : List CallRecord → Option CallRecord
  called ks = find (λ (x : CallRecord). same_name x.name d) ks

  -- one of the others is found behind the first
  found_tail : (j : CallRecord) (ks : List CallRecord) (x : CallRecord)
      → Every (λ (y : CallRecord). by_name y j ≡ false) ks
      → called ks ≡ Some x → called (j ∷ ks) ≡ Some x
  found_tail j ks x apart there = by (same_name j.name d) refl
    where
      by : (b : Bool) → same_name j.name d ≡ b → cond b (Some j) (called ks) ≡ Some x
      by false other = there
      by true same =
          let own : same_name x.name d ≡ true = find_passes (λ (y : CallRecord). same_name y.name d) ks x there in
          let other : same_name x.name j.name ≡ false =
          every_found (λ (y : CallRecord). by_name y j ≡ false) (λ (y : CallRecord). same_name y.name d) ks
          x apart there in
          let one : j.name ≡ d = name_is j.name d same in
          let apart_ : same_name x.name d ≡ false =
          subst (λ (m : CallName). same_name x.name m ≡ false) one other in
          absurd (let wrong : ◌≡◌ {A = Bool} true false = sym own ∙ apart_ in cc (wrong))

-- a record is found by its own name
found_own : (j : CallRecord) (ks : List CallRecord) → called j.name (j ∷ ks) ≡ Some j
found_own j ks = ap (λ (b : Bool). cond b (Some j) (called j.name ks)) (name_itself j.name)

idle : (j : CallRecord) → (is_active j.life ≡ true → ⊥) → beside j ≡ 0
idle j none = by (is_active j.life) refl
  where
    by : (b : Bool) → is_active j.life ≡ b → cond b (held j.looks - lead j.looks) 0 ≡ 0
    by true is = absurd (none is)
    by false is = refl

none_active : (ks : List CallRecord) → Differ by_name ks
    → ((d : CallName) (x : CallRecord) → called d ks ≡ Some x → is_active x.life ≡ true → ⊥) → beside_all ks ≡ 0
none_active [] differ none = refl
none_active (j ∷ ks) differ none =
    let head : beside j ≡ 0 = idle j (λ active. none j.name j (found_own j ks) active) in
    let rest : beside_all ks ≡ 0 =
    none_active ks differ.1 (λ d x there active. none d x (found_tail d j ks x differ.0 there) active) in
    omega arith

-- none but this call holds slots
common_alone : (c : CallName) (ks : List CallRecord) (r : CallRecord) → Differ by_name ks
    → ((d : CallName) (x : CallRecord) → called d ks ≡ Some x → is_active x.life ≡ true → d ≡ c)
    → called c ks ≡ Some r → beside_all ks ≡ beside r
common_alone c [] r differ alone there = absurd cc
common_alone c (j ∷ ks) r differ alone there =
    by (common_alone c ks r differ.1 (λ d x found active. alone d x (found_tail d j ks x differ.0 found) active))
    (same_name j.name c) refl there
  where
    by : (called c ks ≡ Some r → beside_all ks ≡ beside r) → (b : Bool) → same_name j.name c ≡ b
        → cond b (Some j) (called c ks) ≡ Some r → beside j + beside_all ks ≡ beside r
    by again true same is =
        let rest : beside_all ks ≡ 0 = none_active ks differ.1 (λ d x found active. (
        let own : d ≡ c = alone d x (found_tail d j ks x differ.0 found) active in
        let first : called c (j ∷ ks) ≡ Some x =
        subst (λ (m : CallName). called m (j ∷ ks) ≡ Some x) own (found_tail d j ks x differ.0 found) in
        let one : x ≡ j = (let both : ◌≡◌ {A = Option CallRecord} (Some x) (Some j) =
        sym first ∙ ap (λ (b : Bool). cond b (Some j) (called c ks)) same in cc (both)) in
        let other : same_name x.name j.name ≡ false =
        every_found (λ (y : CallRecord). by_name y j ≡ false) (λ (y : CallRecord). same_name y.name d) ks
        x differ.0 found
        in
        absurd (let wrong : ◌≡◌ {A = Bool} true false =
        sym (name_itself j.name) ∙ ap (λ (y : CallRecord). same_name y.name j.name) (sym one)
        ∙ other in cc (wrong)))) in
        let one : j ≡ r = cc in
        subst (λ (y : CallRecord). beside j + beside_all ks ≡ beside y) one (omega arith)
    by again false other is =
        let head : beside j ≡ 0 = idle j (λ active. (
        let own : j.name ≡ c = alone j.name j (found_own j ks) active in
        absurd (let wrong : ◌≡◌ {A = Bool} true false =
        sym (name_itself j.name) ∙ ap (λ (m : CallName). same_name j.name m) own ∙ other in cc (wrong)))) in
        let rest : beside_all ks ≡ beside r = again is in
        omega arith

pub active_lives : (x : Life) → is_active x ≡ true → is_live x ≡ true
active_lives (lives.Ended end) is = absurd cc
active_lives (lives.Broken code) is = absurd cc
active_lives (lives.Over code) is = absurd cc
active_lives _ is = refl

-- where no other call lives, the slots in common are the call's own
pub common_lone : (s : Setup) (l : Looks) (c : CallName) (r : CallRecord) → RoomyAt s l
    → ((d : CallName) (x : CallRecord) → call_at l d ≡ Some x → is_live x.life ≡ true → d ≡ c) → call_at l c ≡ Some r
    → common l ≡ beside r
common_lone s l c r roomy alone there =
    common_alone c l.calls r roomy.differ (λ d x found live. alone d x found (active_lives x.life live)) there

-- by a window of 32 at least and a slot in common at least
count_numbers : (n a window most lead_ : ℕ) → 32 ≤ window → 1 ≤ most → lead_ ≤ 1 → a ≤ opened n → opened n < 4294967294
    → 1412 * (opened n + min (min (window - (opened n - a)) (most - (opened n - a - lead_) + 1 - lead_))
    (4294967294 - opened n)) - n ≡ 0
    → a < (n - 1) / 1412
count_numbers n a window most lead_ wide some one known small none = of (opened n) refl
  where
    of : (o : ℕ) → opened n ≡ o → a < (n - 1) / 1412
    of o is =
        let within : n ≤ 1412 * o = subst (λ (m : ℕ). n ≤ 1412 * m) is (within_opened n) in
        let none_ : 1412 * (o + min (min (window - (o - a)) (most - (o - a - lead_) + 1 - lead_))
        (4294967294 - o)) - n ≡ 0 =
        subst (λ (m : ℕ). 1412 * (m + min (min (window - (m - a)) (most - (m - a - lead_) + 1 - lead_))
        (4294967294 - m)) - n
        ≡ 0) is none in
        let closed : min (min (window - (o - a)) (most - (o - a - lead_) + 1 - lead_)) (4294967294 - o) ≡ 0 =
        zero_more (min (min (window - (o - a)) (most - (o - a - lead_) + 1 - lead_)) (4294967294 - o)) within none_ in
        let all : n ≡ 1412 * o =
        (let bare : 1412 * (o + 0) - n ≡ 0 = subst (λ (m : ℕ). 1412 * (o + m) - n ≡ 0) closed none_ in omega arith) in
        let two : a + 2 ≤ o =
        by (min_is (window - (o - a)) (most - (o - a - lead_) + 1 - lead_) (4294967294 - o)) closed
        (subst (λ (m : ℕ). m < 4294967294) is small) in
        let counts : (n - 1) / 1412 ≡ o - 1 = ap (λ (m : ℕ). (m - 1) / 1412) all ∙ less o two in
        omega (arith, counts, two)
      where
        zero_more : (m : ℕ) → n ≤ 1412 * o → 1412 * (o + m) - n ≡ 0 → m ≡ 0
        zero_more m within none = omega arith

        less : (m : ℕ) → a + 2 ≤ m → (1412 * m - 1) / 1412 ≡ m - 1
        less m high = omega arith

        by : {m : ℕ}
            → (m ≡ window - (o - a)) ⊎ ((m ≡ most - (o - a - lead_) + 1 - lead_) ⊎ (m ≡ 4294967294 - o)) → m ≡ 0
            → o < 4294967294 → a + 2 ≤ o
        by (inl is) none low = omega (arith, wide, is, none)
        by (inr (inl is)) none low = omega (arith, one, some, is, none)
        by (inr (inr is)) none low = absurd (omega (arith, is, none, low))

module _ (s : Setup) (l : Looks) (c : CallName) (r : CallRecord) where
  -- where it has none, and no other call lives, a piece counts that isn't acknowledged
  pub room_counts : FitsLimits s.limits → RoomyAt s l
      → ((d : CallName) (x : CallRecord) → call_at l d ≡ Some x → is_live x.life ≡ true → d ≡ c) → call_at l c ≡ Some r
      → is_active r.life ≡ true → r.looks.sent.shut ≡ false
      → count_above (used_of r.looks.received) r.looks.received.kept ≡ 0
      → r.looks.sent.acked ≤ opened (length r.looks.sent.said) → opened (length r.looks.sent.said) < 4294967294
      → room s l r.looks ≡ 0 → r.looks.sent.acked < counting_of r.looks.sent
  room_counts fits roomy alone there active unshut above known small none =
      let k : CallLooks = r.looks in
      let n : ℕ = length k.sent.said in
      let all : common l ≡ beside r = common_lone s l c r roomy alone there in
      let holds : held k ≡ opened n - k.sent.acked =
      ap (λ (m : ℕ). m + held_pieces k.sent) above ∙ ap (λ (b : Bool). 0 + (pieces_by n b - k.sent.acked)) unshut
      ∙ zero_plus (opened n - k.sent.acked) in
      let own : common l ≡ opened n - k.sent.acked - lead k =
      all ∙ ap (λ (b : Bool). cond b (held k - lead k) 0) active ∙ ap (λ (m : ℕ). m - lead k) holds in
      let room_ : 1412 * (opened n + min (min (sending_window s - (opened n - k.sent.acked))
      (shared_slots s - (opened n - k.sent.acked - lead k) + 1 - lead k)) (4294967294 - opened n)) - n ≡ 0 =
      subst (λ (m : ℕ). 1412 * (opened n + min (min (sending_window s - (opened n - k.sent.acked))
      (shared_slots s - m + 1 - lead k)) (4294967294 - opened n)) - n ≡ 0) own none in
      let counts : counting_of k.sent ≡ (n - 1) / 1412 = ap (λ (b : Bool). counting_by n b) unshut in
      let some : 1 ≤ shared_slots s = (let more = fits.some_slots in omega arith) in
      let low : k.sent.acked < (n - 1) / 1412 =
      count_numbers n k.sent.acked (sending_window s) (shared_slots s) (lead k) fits.wide some (lead_low k) known small
      room_ in
      subst (λ (m : ℕ). k.sent.acked < m) (sym counts) low
    where
      zero_plus : (m : ℕ) → 0 + m ≡ m
      zero_plus m = omega arith

-- ---- packets that are kept and not done with

-- where each packet that is kept is done with there are none
pub none_above : (used : ℕ) (ps : List Packet) → ((k : ℕ) → is_some (packet_at ps k) ≡ true → k ≤ used)
    → count_above used ps ≡ 0
none_above used [] low = refl
none_above used (p ∷ ps) low =
    let first : p.seq ≤ used =
    low p.seq (ap (λ (b : Bool). is_some (cond b (Some p.piece) (packet_at ps p.seq))) (number_itself p.seq)) in
    let other : nat_lt used p.seq ≡ false = grind (arith, nat_tests) in
    let rest : count_above used ps ≡ 0 = none_above used ps (λ k there. low k (more k there)) in
    rw other rest
  where
    more : (k : ℕ) → is_some (packet_at ps k) ≡ true → is_some (packet_at (p ∷ ps) k) ≡ true
    more k there = by (p.seq == k)
      where
        by : (b : Bool) → is_some (cond b (Some p.piece) (packet_at ps k)) ≡ true
        by true = refl
        by false = there
