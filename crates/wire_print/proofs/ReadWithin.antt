-- What a reader gives is within the limits.
use Rattle.std.proofs.Common.{◌≡◌, ℕ, ◌≤◌, Bool, true, false, List, refl, subst, leb-true}
use Rattle.std.specs.Prelude.{Option, Some, None, IfSome, option_map, option_and_then, nat_le, if◌then◌else◌, codes, bytes_eq}
use Rattle.serde_json.specs.Data.{Data}
use Rattle.serde_json.specs.Find.{get, as_str, as_bool}
use Rattle.troop_entry.specs.declared.reply.Reply.TheVariants as desk
use Rattle.wire_json.specs.declared.replies.WireReply.{WireReply}
use Rattle.wire_json.specs.declared.replies.WireReply.TheVariants as reply
use Rattle.wire_json.specs.Values.{most_count, most_who, at_most, whole_of, count_of, who_of, from_one, performer_of}
use Rattle.wire_json.specs.Fields.{field, value_of}
use Rattle.wire_json.specs.Replies.{refusal_of_word, is_set, kept_reply, placed_reply, reply_by, reply_of_data, reply_of_line}
use Rattle.wire_print.specs.Within.{IsCount, IsWho, ReplyIsSpelled, ReplyIsWithin}

-- a choice of which either is so
either_some : {A : Type 0} (b : Bool) (o p : Option A) (P : A → Type 0) → IfSome o P → IfSome p P → IfSome (if b then o else p) P
either_some true o p P h k = h
either_some false o p P h k = k

-- a value that is given under a condition
guard_some : {A : Type 0} (b : Bool) (x : A) (P : A → Type 0) → (b ≡ true → P x) → IfSome (if b then Some x else None) P
guard_some true x P h = h refl
guard_some false x P h = tt

and_then_some : {A B : Type 0} (f : A → Option B) (o : Option A) (Q : A → Type 0) (P : B → Type 0) → IfSome o Q → ((x : A) → Q x → IfSome (f x) P) → IfSome (option_and_then f o) P
and_then_some f None Q P q h = tt
and_then_some f (Some x) Q P q h = h x q

map_some : {A B : Type 0} (f : A → B) (o : Option A) (Q : A → Type 0) (P : B → Type 0) → IfSome o Q → ((x : A) → Q x → P (f x)) → IfSome (option_map f o) P
map_some f None Q P q h = tt
map_some f (Some x) Q P q h = h x q

any_some : {A B : Type 0} (f : A → Option B) (o : Option A) (P : B → Type 0) → ((x : A) → IfSome (f x) P) → IfSome (option_and_then f o) P
any_some f None P h = tt
any_some f (Some x) P h = h x

count_some : (d : Data) → IfSome (count_of d) IsCount
count_some d = any_some (at_most most_count) (whole_of d) IsCount (λ n. guard_some (nat_le n most_count) n IsCount (λ e. leb-true n most_count e))

who_some : (d : Data) → IfSome (who_of d) IsWho
who_some d = any_some (at_most most_who) (whole_of d) IsWho (λ n. guard_some (nat_le n most_who) n IsWho (λ e. leb-true n most_who e))

abbrev IsPerformer : ℕ → Type 0
IsPerformer n = IsWho n × (1 ≤ n)

performer_some : (d : Data) → IfSome (performer_of d) IsPerformer
performer_some d = and_then_some from_one (who_of d) IsWho IsPerformer (who_some d) (λ n who. guard_some (nat_le 1 n) n IsPerformer (λ e. (who, leb-true 1 n e)))

count_field : (key : List ℕ) (d : Data) → IfSome (field count_of key d) IsCount
count_field key d = any_some count_of (get key d) IsCount count_some

who_field : (key : List ℕ) (d : Data) → IfSome (field who_of key d) IsWho
who_field key d = any_some who_of (get key d) IsWho who_some

performer_field : (key : List ℕ) (d : Data) → IfSome (field performer_of key d) IsPerformer
performer_field key d = any_some performer_of (get key d) IsPerformer performer_some

-- ---- Replies.

abbrev Fits : WireReply → Type 0
Fits r = ReplyIsSpelled r × ReplyIsWithin r

placed_fits : (d : Data) → IfSome (placed_reply d) Fits
placed_fits d = and_then_some _ (field count_of (codes "at") d) IsCount Fits (count_field (codes "at") d)
    (λ at h. map_some (λ who. reply.Desk (desk.Placed at who)) (field performer_of (codes "who") d) IsPerformer Fits (performer_field (codes "who") d) (λ who w. (w.0, (h, w.1))))

kept_fits : (d : Data) → IfSome (kept_reply d) Fits
kept_fits d = and_then_some _ (field count_of (codes "at") d) IsCount Fits (count_field (codes "at") d)
    (λ at h. map_some (λ who. reply.Desk (desk.Kept at who)) (field who_of (codes "who") d) IsWho Fits (who_field (codes "who") d) (λ who w. (w, h)))

two_counts : (make : ℕ → ℕ → WireReply) (first second : List ℕ) (d : Data) → ((m n : ℕ) → IsCount m → IsCount n → Fits (make m n))
    → IfSome (option_and_then (λ m. option_map (λ n. make m n) (field count_of second d)) (field count_of first d)) Fits
two_counts make first second d fits = and_then_some _ (field count_of first d) IsCount Fits (count_field first d)
    (λ m h. map_some (λ n. make m n) (field count_of second d) IsCount Fits (count_field second d) (λ n k. fits m n h k))

one_count : (make : ℕ → WireReply) (key : List ℕ) (d : Data) → ((n : ℕ) → IsCount n → Fits (make n)) → IfSome (option_map make (field count_of key d)) Fits
one_count make key d fits = map_some make (field count_of key d) IsCount Fits (count_field key d) fits

refusal_fits : (word : List ℕ) (d : Data) → IfSome (refusal_of_word word d) Fits
refusal_fits word d =
    either_some (bytes_eq word (codes "member")) _ _ Fits (map_some (λ who. reply.Desk (desk.NotMember who)) (field who_of (codes "who") d) IsWho Fits (who_field (codes "who") d) (λ who w. (w, tt)))
    (either_some (bytes_eq word (codes "ahead")) _ _ Fits (two_counts (λ m n. reply.Desk (desk.Ahead m n)) (codes "seen") (codes "length") d (λ m n h k. (tt, (h, k))))
    (either_some (bytes_eq word (codes "base")) _ _ Fits (two_counts (λ m n. reply.Desk (desk.BadBase m n)) (codes "want") (codes "got") d (λ m n h k. (tt, (h, k))))
    (either_some (bytes_eq word (codes "crowded")) _ _ Fits (one_count (λ n. reply.Desk (desk.Crowded n)) (codes "joins") d (λ n h. (tt, h)))
    (either_some (bytes_eq word (codes "clash")) _ _ Fits (two_counts (λ m n. reply.Desk (desk.Clash m n)) (codes "num") (codes "at") d (λ m n h k. (tt, (h, k))))
    (either_some (bytes_eq word (codes "bad")) _ _ Fits (one_count reply.Bad (codes "line") d (λ n h. (tt, h)))
    (either_some (bytes_eq word (codes "long")) _ _ Fits (one_count reply.Long (codes "line") d (λ n h. (tt, h)))
    (either_some (bytes_eq word (codes "unfit")) _ _ Fits (one_count reply.Unfit (codes "line") d (λ n h. (tt, h))) tt)))))))

by_fits : (said : Option Data) (d : Data) → IfSome (reply_by said d) Fits
by_fits None d = either_some (is_set (field as_bool (codes "kept") d)) (kept_reply d) (placed_reply d) Fits (kept_fits d) (placed_fits d)
by_fits (Some said) d = any_some (λ word. refusal_of_word word d) (as_str said) Fits (λ word. refusal_fits word d)

-- a reply that was read is within the limits
pub reply_within : (line : List ℕ) (r : WireReply) → reply_of_line line ≡ Some r → ReplyIsSpelled r × ReplyIsWithin r
reply_within line r is = subst (λ o. IfSome o Fits) is (any_some reply_of_data (value_of line) Fits (λ d. by_fits (get (codes "no") d) d))
