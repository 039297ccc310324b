-- Links that are taken from a door, one after the other.
use Rattle.std.proofs.Common.{◌≡◌, ℕ, ◌+◌, List, [], ◌∷◌, ◌++◌, length, refl, sym, ap, ◌∙◌, arith, length-append, append_assoc, Option, Some, None, option_map, subst, Bool}
use Rattle.std.specs.Prelude.{◌≤◌, IfSome}
use Rattle.std.proofs.lemmas.List.{append-nil}
use Rattle.troop_ports.specs.Doors.{first_of}
use Rattle.link_queue.specs.declared.rule.Numbered.{Numbered}
use Rattle.link_queue.specs.Ends.{LinkEndValue, having_put}
use Rattle.server_crew.specs.Accepting.{and_more, IsWithinAsked, HasTaken, InTaking}

and_none : (rest : Option ℕ) → rest ≡ and_more 0 rest
and_none None = refl
and_none (Some k) = ap Some (omega arith)

and_one : (n : ℕ) (rest : Option ℕ) → and_more n (and_more 1 rest) ≡ and_more (n + 1) rest
and_one n None = refl
and_one n (Some k) = ap Some (omega arith)

within_more : (count : ℕ) (rest : Option ℕ) → IsWithinAsked (and_more count rest) count
within_more count None = tt
within_more count (Some more) = omega arith

-- where so many were taken and some may be still asked for, no more were taken than were asked for
pub within_asked : (sessions rest : Option ℕ) (count : ℕ) → sessions ≡ and_more count rest → IsWithinAsked sessions count
within_asked sessions rest count left = subst (λ asked. IsWithinAsked asked count) (sym left) (within_more count rest)

module _ {L : Type 0} where
  in_front_none : (told : Option (List L)) → told ≡ option_map (λ others. [] ++ others) told
  in_front_none None = refl
  in_front_none (Some l) = refl

  in_front_more : (links : List L) (link : L) (told : Option (List L)) → option_map (λ others. links ++ others) (first_of link told) ≡ option_map (λ others. (links ++ link ∷ []) ++ others) told
  in_front_more links link None = refl
  in_front_more links link (Some l) = ap Some (sym (append_assoc links (link ∷ []) l))

  -- none was taken
  pub taking_none : (sessions : Option ℕ) (told : Option (List L)) (v : LinkEndValue L) (places : ℕ) → InTaking sessions sessions told told v v places places
  taking_none sessions told v places = record {
    links = [];
    moved = record { queue = refl; parts = refl; put = sym (append-nil v.put); taken = refl; from = in_front_none told; places_are = omega arith };
    left = and_none sessions;
  }

  -- one more was taken
  pub taking_more : (sessions rest rest' : Option ℕ) (old mid new : Option (List L)) (v w w' : LinkEndValue L) (places p p' : ℕ) (link : Numbered L) → InTaking sessions rest old mid v w places p → mid ≡ first_of link.link new → w' ≡ having_put w (Some link) → p' ≡ p + 1 → rest ≡ and_more 1 rest'
      → InTaking sessions rest' old new v w' places p'
  taking_more sessions rest rest' old mid new v w w' places p p' link t first moved one fewer =
      let m = t.moved in
      let count = length-append t.links (link.link ∷ []) in
      let places_are = m.places_are in
      record {
        links = t.links ++ link.link ∷ [];
        moved = record {
          queue = ap (λ (e : LinkEndValue L). e.queue) moved ∙ m.queue;
          parts = ap (λ (e : LinkEndValue L). e.parts) moved ∙ m.parts;
          put = ap (λ (e : LinkEndValue L). e.put) moved ∙ (ap (λ l. l ++ link.link ∷ []) m.put ∙ append_assoc v.put t.links (link.link ∷ []));
          taken = ap (λ (e : LinkEndValue L). e.taken) moved ∙ m.taken;
          from = m.from ∙ (ap (λ told. option_map (λ others. t.links ++ others) told) first ∙ in_front_more t.links link.link new);
          places_are = omega (arith, count, places_are, one);
        };
        left = t.left ∙ (ap (and_more (length t.links)) fewer ∙ (and_one (length t.links) rest' ∙ ap (λ n. and_more n rest') (omega (arith, count))));
      }

  -- marks that are put behind the links change nothing of them
  pub taken_behind : (sessions : Option ℕ) (old new : Option (List L)) (v w w' : LinkEndValue L) (places places' : ℕ) (failed : Bool) → HasTaken sessions old new v w places places' failed
      → (w'.queue ≡ w.queue) × (w'.parts ≡ w.parts) × (w'.put ≡ w.put) × (w'.taken ≡ w.taken) → HasTaken sessions old new v w' places places' failed
  taken_behind sessions old new v w w' places places' failed t same =
      let m = t.moved in
      record {
        links = t.links;
        moved = record { queue = same.0 ∙ m.queue; parts = same.1 ∙ m.parts; put = same.2 ∙ m.put; taken = same.3 ∙ m.taken; from = m.from; places_are = m.places_are };
        within = t.within;
        enough = t.enough;
      }

  -- a link that is put is no mark
  pub marks_same : (v w w' : LinkEndValue L) (link : Numbered L) → (w.marks_put ≡ v.marks_put) × (w.marks_taken ≡ v.marks_taken) → w' ≡ having_put w (Some link) → (w'.marks_put ≡ v.marks_put) × (w'.marks_taken ≡ v.marks_taken)
  marks_same v w w' link same moved =
      let put = ap (λ (e : LinkEndValue L). e.marks_put) moved in
      let taken = ap (λ (e : LinkEndValue L). e.marks_taken) moved in
      let before = same.0 in
      (omega (arith, put, before), taken ∙ same.1)
