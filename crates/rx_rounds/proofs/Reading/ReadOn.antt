-- An end while its stream is read: what was read and what stands to be read are the stream's front.
use Rattle.std.proofs.Common.{◌≡◌, ◌<◌, ◌≤◌, ◌+◌, ◌*◌, ◌++◌, ℕ, Bool, true, false, cond, List, [], refl, ap, sym, ◌∙◌}
use Rattle.std.proofs.Common.{Option}
use Rattle.std.proofs.Common.{Some, None, length, take, drop, nat_lt, arith, append-nil, append_assoc}
use Rattle.std.proofs.lemmas.Bool.{ltb-false}
use Rattle.std.specs.Prelude.{IfSome, IsSomeAnd}
use Rattle.rx_rules.specs.CallLooks.{CallLooks, after_read}
use Rattle.rx_rules.specs.Owing.{Owed, delayed, owed_for_read}
use Rattle.rx_rules.specs.Received.{Received, heard_of, unread_of, used_of}
use Rattle.rx_rounds.proofs.Keeper.{part_read}
use Rattle.rx_rounds.proofs.One.OneWay.{IsPlainOwed}
use Rattle.rx_rounds.proofs.Replies.ReplyStream.{unread_kept}

module _ (whole : List ℕ) (now p n : ℕ) (first : CallLooks) where
  -- only what was read, and what is owed for it, changes, at a node that isn't prompt
  pub record IsRead (read : List ℕ) (k : CallLooks) : Type 0 where
    pub owed : Option Owed
    pub unprompted : first.cwnd.prompt ≡ false
    pub is : k ≡ record first { received = part_read whole read p n; owed_ack = owed }
    pub front : read ++ unread_of k.received ≡ take (1412 * n) whole
    pub stays : (o : Owed) → first.owed_ack ≡ Some o → owed ≡ Some o
    pub plain : IfSome first.owed_ack IsPlainOwed → IfSome owed IsPlainOwed
    pub late : IfSome first.owed_ack (λ o. o.rank ≤ now + 100) → IfSome owed (λ o. o.rank ≤ now + 100)
    -- once more packets are done with an ACK is owed
    pub raised : used_of first.received < used_of (part_read whole read p n)
        → IfSome first.owed_ack (λ o. o.rank ≤ now + 100) → IsSomeAnd owed (λ o. o.rank ≤ now + 100)

  -- as it stands before it is read on
  pub begins_read : (read : List ℕ) (m : ℕ) → first.received ≡ part_read whole read p n → m ≤ n
      → read ≡ take (1412 * m) whole → first.cwnd.prompt ≡ false → IsRead read first
  begins_read read m is low stood unprompted =
      record {
        owed = first.owed_ack;
        unprompted = unprompted;
        is = ap (λ (r : Received). record first { received = r }) is;
        front = ap (λ (r : Received). read ++ unread_of r) is ∙ unread_kept whole read p n m low stood;
        stays = λ o was. was;
        plain = λ was. was;
        late = λ was. was;
        raised = λ more was. absurd (let same : used_of first.received ≡ used_of (part_read whole read p n) =
            ap (λ (r : Received). used_of r) is in omega arith);
      }

  -- more is read
  pub reads_more : (read more : List ℕ) (k : CallLooks)
      → more ++ unread_of (after_read now false more k).received ≡ unread_of k.received → IsRead read k
      → IsRead (read ++ more) (after_read now false more k)
  reads_more read more k rest h =
      let r = part_read whole read p n in
      let s = part_read whole (read ++ more) p n in
      record {
        owed = owed_for_read now false (used_of r) (used_of s) h.owed;
        unprompted = h.unprompted;
        is =
            ap (after_read now false more) h.is
            ∙ ap (λ (b : Bool). record first {
              received = s;
              owed_ack = owed_for_read now b (used_of r) (used_of s) h.owed;
            }) h.unprompted;
        front =
            append_assoc read more (unread_of (after_read now false more k).received)
            ∙ ap (λ (ys : List ℕ). read ++ ys) rest ∙ h.front;
        stays = λ o was. still (nat_lt (used_of r) (used_of s)) o (h.stays o was);
        plain = λ was. fine (nat_lt (used_of r) (used_of s)) h.owed (h.plain was);
        late = λ was. soon (nat_lt (used_of r) (used_of s)) h.owed (h.late was);
        raised = λ rises was. rise (used_of r) (used_of s) (nat_lt (used_of r) (used_of s)) refl rises (h.late was)
            (λ less. h.raised less was);
      }
    where
      rise : (u v : ℕ) (b : Bool) → nat_lt u v ≡ b → used_of first.received < v
          → IfSome h.owed (λ o. o.rank ≤ now + 100)
          → (used_of first.received < u → IsSomeAnd h.owed (λ o. o.rank ≤ now + 100))
          → IsSomeAnd (cond b (delayed now 0 h.owed) h.owed) (λ o. o.rank ≤ now + 100)
      rise u v true is rises late before = by h.owed late
        where
          by : (o : Option Owed) → IfSome o (λ w. w.rank ≤ now + 100)
              → IsSomeAnd (delayed now 0 o) (λ w. w.rank ≤ now + 100)
          by None was = omega arith
          by (Some o) was = was
      rise u v false is rises late before = (let not_less : v ≤ u = ltb-false u v is in before (omega arith))

      still : (b : Bool) (o : Owed) → h.owed ≡ Some o → cond b (delayed now 0 h.owed) h.owed ≡ Some o
      still true o was = ap (delayed now 0) was
      still false o was = was

      fine : (b : Bool) (o : Option Owed) → IfSome o IsPlainOwed → IfSome (cond b (delayed now 0 o) o) IsPlainOwed
      fine true None was = record
          { reason_low = omega arith; reason_high = omega arith; serial = omega arith; no_ping = refl }
      fine true (Some o) was = was
      fine false o was = was

      soon : (b : Bool) (o : Option Owed) → IfSome o (λ w. w.rank ≤ now + 100)
          → IfSome (cond b (delayed now 0 o) o) (λ w. w.rank ≤ now + 100)
      soon true None was = omega arith
      soon true (Some o) was = was
      soon false o was = was

  -- where nothing is left, all that stands was read
  pub read_out : (read : List ℕ) (k : CallLooks) → IsRead read k → unread_of k.received ≡ []
      → read ≡ take (1412 * n) whole
  read_out read k h none = sym (append-nil read) ∙ ap (λ (u : List ℕ). read ++ u) (sym none) ∙ h.front

-- a read that gave nothing leaves what is there to read
pub unread_still : (now : ℕ) (k : CallLooks) → unread_of (after_read now false [] k).received ≡ unread_of k.received
unread_still now k = ap (λ (r : List ℕ). drop (length r) (heard_of k.received.kept)) (append-nil k.received.read)
