-- From when on a poll would do something: the items and the deaths of calls that may be silent.
use Rattle.std.proofs.Common.{◌≡◌, ◌≤◌, ◌-◌, ◌+◌, ◌&&◌, ◌==◌, ◌++◌, ℕ, length, max, not, Bool, true, false, List, []}
use Rattle.std.proofs.Common.{◌∷◌, map, nat_le}
use Rattle.std.proofs.Common.{Option, Some, None, option_map, refl, ◌∙◌, ap, sym, arith, if◌then◌else◌}
use Rattle.std.specs.List.{find}
use Rattle.std.proofs.lemmas.Bool.Decides.{nat_tests}
use Rattle.rx_model.specs.declared.names.CallName.{CallName}
use Rattle.rx_model.specs.declared.stray.Stray.{Stray}
use Rattle.rx_model.specs.declared.wire.TheConstants.{SILENCE_MS}
use Rattle.rx_model.specs.Body as bodies
use Rattle.rx_model.specs.Names.{Channel, same_name}
use Rattle.rx_rules.specs.CallItems.{call_items}
use Rattle.rx_rules.specs.Classes.{Class}
use Rattle.rx_rules.specs.Items.{Item, all_channels, busy_items, channel_items, class_items, deaths, due, item_of}
use Rattle.rx_rules.specs.Items.{items, items_of, items_on}
use Rattle.rx_rules.specs.Items.{owed_item, where_owed}
use Rattle.rx_rules.specs.Least.{least_by, lesser_by}
use Rattle.rx_rules.specs.Life.{is_active, is_live}
use Rattle.rx_rules.specs.Looks.{CallRecord, ChannelLooks, Looks, channel_at, is_call, latest, latest_name}
use Rattle.rx_rules.specs.Records.{is_silent, silence_of}
use Rattle.rx_rules.specs.Setup.{Setup, is_client}
use Rattle.rx_rules.proofs.EveryLaws.{Every}
use Rattle.rx_rules.proofs.FindLaws.{find_passes, list_any-none}
use Rattle.rx_model.proofs.NameLaws.{both}
use Rattle.rx_history.proofs.Differ.{every_found, every_other}
use Rattle.rx_node.specs.Due.{lesser_of, unsilenced}
use Rattle.rx_node.specs.Mirrors.{Mirrors}
use Rattle.rx_node.specs.Node.{NodeState, setup_of}
use Rattle.rx_node.proofs.DueItems.{never-silent}
use Rattle.rx_books.proofs.FirstDeath.{AtMost, has-death, least-low, moments-other}
use Rattle.rx_node.proofs.LeastItems.{least_join, least_map}

-- ---- where no call is silent

-- no call was heard so long ago that it ends
abbrev pub NoneSilent : Looks → Type 0
NoneSilent l = Every (λ k. is_silent l.now k ≡ false) l.calls

module _ (s : Setup) (l : Looks) (none : NoneSilent l) where
  sent-same : (o : Option CallRecord) → ((k : CallRecord) → o ≡ Some k → is_silent l.now k ≡ false)
      → items_of s (unsilenced l) o ≡ items_of s l o
  sent-same None quiet = refl
  sent-same (Some k) quiet =
      ap (λ (b : Bool). if is_active k.life && not b then map (item_of s k)
      (call_items (is_client s.kind) k.looks) else [])
      (never-silent k ∙ sym (quiet k refl))

  channel-same : (ch : Channel) → channel_items s (unsilenced l) ch ≡ channel_items s l ch
  channel-same ch =
      let q : ChannelLooks = channel_at l ch in
      let c : CallName = latest_name l ch in
      ap (λ (sends : List Item).
      owed_item c (option_map bodies.Abort q.owed_abort)
      ++ (busy_items ch q.owed_busy ++ (class_items s l c q (is_call (λ k. is_live k.life) (latest l ch))
      ++ (owed_item c (where_owed q.owed_ackall bodies.AckAll) ++ sends))))
      (sent-same (latest l ch)
      (λ k is. every_found (λ j. is_silent l.now j ≡ false) (λ j. same_name j.name (latest_name l ch))
      l.calls k none is))

  -- its items are those of calls that aren't
  pub items_same : items s (unsilenced l) ≡ items s l
  items_same = on (all_channels l.conns)
    where
      on : (chs : List Channel) → items_on s (unsilenced l) chs ≡ items_on s l chs
      on [] = refl
      on (ch ∷ chs) = λ i. channel-same ch i ++ on chs i

-- ---- the least moment

module _ (s : Setup) (l : Looks) where
  abbrev first : Option ℕ
  first = least_by (λ m. m) (deaths l.calls)

  -- of these items and the deaths
  abbrev pub moment_by : List Item → Option ℕ
  moment_by is = lesser_of (λ m. m) (option_map (λ i. i.rank) (least_by (λ i. i.rank) is)) first

  joined : (is : List Item) → least_by (λ m. m) (map (λ i. i.rank) is ++ deaths l.calls) ≡ moment_by is
  joined is =
      least_join (λ m. m) (map (λ i. i.rank) is) (deaths l.calls)
      ∙ ap (λ (o : Option ℕ). lesser_of (λ m. m) o first)
      (least_map (λ i. i.rank) (λ m. m) (λ i. i.rank) is (λ i. refl))

  -- where a call died before, it is now
  passed : (d : ℕ) → first ≡ Some d → d ≤ l.now → (a : Option ℕ)
      → option_map (max l.now) (lesser_of (λ m. m) a first) ≡ Some l.now
  passed d is low a = ap (λ (o : Option ℕ). option_map (max l.now) (lesser_of (λ m. m) a o)) is ∙ of a
    where
      of : (a : Option ℕ) → option_map (max l.now) (lesser_of (λ m. m) a (Some d)) ≡ Some l.now
      of None = ap (λ (n : ℕ). Some n) (let now : max l.now d ≡ l.now = omega arith in now)
      of (Some x) =
          (let less = moments-other x d in
          let now : max l.now (lesser_by (λ m. m) x (Some d)) ≡ l.now = omega arith in
          ap (λ (n : ℕ). Some n) now)

  -- the items of calls that are silent don't count
  pub moment_same : option_map (max l.now) (moment_by (items s (unsilenced l))) ≡ option_map (max l.now)
      (moment_by (items s l))
  moment_same = of (find (is_silent l.now) l.calls) refl
    where
      of : (o : Option CallRecord) → find (is_silent l.now) l.calls ≡ o
          → option_map (max l.now) (moment_by (items s (unsilenced l))) ≡ option_map (max l.now) (moment_by (items s l))
      of None is =
          ap (λ (xs : List Item). option_map (max l.now) (moment_by xs))
          (items_same s l (every_other (is_silent l.now) l.calls (list_any-none (is_silent l.now) l.calls is)))
      of (Some k) is =
          let silent = both (is_active k.life) (nat_le SILENCE_MS (silence_of l.now k))
          (find_passes (is_silent l.now) l.calls k is) in
          let long : SILENCE_MS ≤ l.now - k.looks.heard = (let h = silent.1 in grind (arith, nat_tests, h)) in
          with_first (least_by (λ m. m) (deaths l.calls)) refl
          (least-low (deaths l.calls) (k.looks.heard + SILENCE_MS) (has-death (is_silent l.now) l.calls k is silent.0))
          long
        where
          with_first : (o : Option ℕ) → first ≡ o → AtMost o (k.looks.heard + SILENCE_MS)
              → SILENCE_MS ≤ l.now - k.looks.heard
              → option_map (max l.now) (moment_by (items s (unsilenced l))) ≡ option_map (max l.now)
              (moment_by (items s l))
          with_first None is low long = absurd low
          with_first (Some d) is low long =
              passed d is (omega arith) (option_map (λ i. i.rank) (least_by (λ i. i.rank) (items s (unsilenced l))))
              ∙ sym (passed d is (omega arith) (option_map (λ i. i.rank) (least_by (λ i. i.rank) (items s l))))

  -- where no stray abort is owed
  pub due_least : l.strays ≡ [] → (o : Option ℕ) → o ≡ moment_by (items s (unsilenced l))
      → option_map (max l.now) o ≡ due s l
  due_least none o is =
      ap (λ (p : Option ℕ). option_map (max l.now) p) is ∙ moment_same
      ∙ sym (ap (λ (xs : List Stray). option_map (max l.now)
      (least_by (λ m. m) (map (λ x. 0) xs ++ (map (λ i. i.rank) (items s l) ++ deaths l.calls)))) none
      ∙ ap (λ (p : Option ℕ). option_map (max l.now) p) (joined (items s l)))

  -- where one is, it is due at once
  pub due_stray : (x : Stray) (xs : List Stray) → l.strays ≡ x ∷ xs → Some l.now ≡ due s l
  due_stray x xs owed =
      sym (ap (λ (ys : List Stray). option_map (max l.now)
      (least_by (λ m. m) (map (λ x. 0) ys ++ (map (λ i. i.rank) (items s l) ++ deaths l.calls)))) owed
      ∙ of (least_by (λ m. m) (map (λ x. 0) xs ++ (map (λ i. i.rank) (items s l) ++ deaths l.calls))))
    where
      of : (o : Option ℕ) → option_map (max l.now) (Some (lesser_by (λ m. m) 0 o)) ≡ Some l.now
      of None = ap (λ (n : ℕ). Some n) (let now : max l.now 0 ≡ l.now = omega arith in now)
      of (Some y) =
          (let first : nat_le 0 y ≡ true = grind (arith, nat_tests) in
          let now : max l.now 0 ≡ l.now = omega arith in
          ap (λ (b : Bool). Some (max l.now (if b then 0 else y))) first ∙ ap (λ (n : ℕ). Some n) now)

-- ---- of a node

empty-is : (xs : List Stray) → true ≡ (length xs == 0) → xs ≡ []
empty-is [] is = refl
empty-is (x ∷ xs) is = absurd (grind (arith, nat_tests, is))

module _ (class : List ℕ → Class) (n : NodeState) (old : NodeState) (same : n ≡ old) (l : Looks)
    (m : Mirrors class old l) where
  -- a stray abort is owed
  pub due_owing : false ≡ (length n.strays == 0) → Some n.moment ≡ due (setup_of class old) l
  due_owing some = of n.strays refl some
    where
      of : (xs : List Stray) → n.strays ≡ xs → false ≡ (length xs == 0) → Some n.moment ≡ due (setup_of class old) l
      of [] is none = absurd (grind (arith, nat_tests, none))
      of (x ∷ xs) is none =
          ap (λ (k : ℕ). Some k) (ap (λ (o : NodeState). o.moment) same ∙ m.now)
          ∙ due_stray (setup_of class old) l x xs (sym m.strays ∙ ap (λ (o : NodeState). o.strays) (sym same) ∙ is)

  -- none is, and nothing else
  pub due_nothing : true ≡ (length n.strays == 0) → None ≡ moment_by (setup_of class old) l
      (items (setup_of class old) (unsilenced l))
      → None ≡ due (setup_of class old) l
  due_nothing none is =
      due_least (setup_of class old) l
      (sym m.strays ∙ ap (λ (o : NodeState). o.strays) (sym same) ∙ empty-is n.strays none) None is

  -- something else is
  pub due_something : true ≡ (length n.strays == 0) → (least moment : ℕ)
      → Some least ≡ moment_by (setup_of class old) l (items (setup_of class old) (unsilenced l))
      → moment ≡ max least n.moment → Some moment ≡ due (setup_of class old) l
  due_something none least moment is later =
      let now : n.moment ≡ l.now = ap (λ (o : NodeState). o.moment) same ∙ m.now in
      let turned : moment ≡ max l.now least = omega arith in
      ap (λ (k : ℕ). Some k) turned
      ∙ due_least (setup_of class old) l
      (sym m.strays ∙ ap (λ (o : NodeState). o.strays) (sym same) ∙ empty-is n.strays none) (Some least) is
