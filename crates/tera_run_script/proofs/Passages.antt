-- Texts that go through a stream part by part.
use Rattle.std.proofs.Common.{◌≡◌, ℕ, ◌<◌, ◌+◌, List, [], ◌∷◌, ◌++◌, length, take, drop, Result, Ok, Err, refl, sym, ap, ◌∙◌, arith, append_assoc, append-nil, drop-cons, add-one, suc, get_or, map}
use Rattle.std.proofs.Math.Seq.{take-suc}
use Rattle.std.proofs.lemmas.Grind.{flat_map-append}
use Rattle.std.specs.List.{flat_map}
use Rattle.std.proofs.lemmas.List.{take-append-drop}
use Rattle.tera_run_script.specs.Passage.{Passage, Passes, PassesAll, PassesPart, Puts, Flushes}
use Rattle.tera_run_script.specs.declared.stream.Failure.{Failure}

-- some of the text went through, and the rest is still to come
pub record Along (old new : Passage) (text rest : List ℕ) : Type 0 where
  pub front : List ℕ
  pub whole : text ≡ front ++ rest
  pub passed : PassesAll old new front

pub along_none : (old : Passage) (text : List ℕ) → Along old old text text
along_none old text = record { front = []; whole = refl; passed = record { bytes = sym (append-nil old.bytes); failures = refl } }

pub along_all : (old new : Passage) (text : List ℕ) → Along old new text [] → PassesAll old new text
along_all old new text a = record { bytes = a.passed.bytes ∙ ap (λ bytes. old.bytes ++ bytes) (sym (a.whole ∙ append-nil a.front)); failures = a.passed.failures }

pub along_more : (old mid new : Passage) (text rest : List ℕ) (n : ℕ) → Along old mid text rest → Passes mid new rest (Ok n) → Along old new text (drop n rest)
along_more old mid new text rest n a p = record {
  front = a.front ++ take n rest;
  whole = a.whole ∙ ap (λ bytes. a.front ++ bytes) (sym (take-append-drop n rest)) ∙ sym (append_assoc a.front (take n rest) (drop n rest));
  passed = record {
    bytes = p.1 ∙ ap (λ bytes. bytes ++ take n rest) a.passed.bytes ∙ append_assoc old.bytes a.front (take n rest);
    failures = p.2 ∙ a.passed.failures;
  };
}

pub along_fails : (old mid new : Passage) (text rest : List ℕ) (failure : Failure) → Along old mid text rest → Passes mid new rest (Err failure) → PassesPart old new text
along_fails old mid new text rest failure a p = record {
  front = a.front;
  rest = rest;
  whole = a.whole;
  bytes = p.0 ∙ a.passed.bytes;
  failures = omega (arith, a.passed.failures, p.1);
}

-- one text behind another
pub all_then_all : (old mid new : Passage) (first second : List ℕ) → PassesAll old mid first → PassesAll mid new second → PassesAll old new (first ++ second)
all_then_all old mid new first second a b = record {
  bytes = b.bytes ∙ ap (λ bytes. bytes ++ second) a.bytes ∙ append_assoc old.bytes first second;
  failures = b.failures ∙ a.failures;
}

pub all_then_part : (old mid new : Passage) (first second : List ℕ) → PassesAll old mid first → PassesPart mid new second → PassesPart old new (first ++ second)
all_then_part old mid new first second a b = record {
  front = first ++ b.front;
  rest = b.rest;
  whole = ap (λ bytes. first ++ bytes) b.whole ∙ sym (append_assoc first b.front b.rest);
  bytes = b.bytes ∙ ap (λ bytes. bytes ++ b.front) a.bytes ∙ append_assoc old.bytes first b.front;
  failures = omega (arith, a.failures, b.failures);
}

pub part_before : (old new : Passage) (first second : List ℕ) → PassesPart old new first → PassesPart old new (first ++ second)
part_before old new first second a = record {
  front = a.front;
  rest = a.rest ++ second;
  whole = ap (λ bytes. bytes ++ second) a.whole ∙ append_assoc a.front a.rest second;
  bytes = a.bytes;
  failures = a.failures;
}

module _ {X : Type 0} (text_of : X → List ℕ) where
  split_parts : (parts : List X) (i : ℕ) (d : X) → i < length parts → flat_map text_of parts ≡ flat_map text_of (take i parts) ++ (text_of (get_or parts i d) ++ flat_map text_of (drop (suc i) parts))
  split_parts parts i d h =
      ap (flat_map text_of) (sym (take-append-drop i parts)) ∙ flat_map-append text_of (take i parts) (drop i parts)
      ∙ ap (λ rest. flat_map text_of (take i parts) ++ flat_map text_of rest) (drop-cons parts i d h)

  -- the parts before it went through, and this one failed
  pub parts_fail : (old mid new : Passage) (parts : List X) (i : ℕ) (d : X) → PassesAll old mid (flat_map text_of (take i parts)) → i < length parts → PassesPart mid new (text_of (get_or parts i d)) → PassesPart old new (flat_map text_of parts)
  parts_fail old mid new parts i d a h b =
      rw (split_parts parts i d h) (all_then_part old mid new (flat_map text_of (take i parts)) (text_of (get_or parts i d) ++ flat_map text_of (drop (suc i) parts)) a
      (part_before mid new (text_of (get_or parts i d)) (flat_map text_of (drop (suc i) parts)) b))

  -- the parts before it went through, and so did this one
  pub parts_more : (old mid new : Passage) (parts : List X) (i : ℕ) (d : X) → PassesAll old mid (flat_map text_of (take i parts)) → i < length parts → PassesAll mid new (text_of (get_or parts i d)) → PassesAll old new (flat_map text_of (take (i + 1) parts))
  parts_more old mid new parts i d a h b =
      rw (ap (λ n. flat_map text_of (take n parts)) (add-one i) ∙ ap (flat_map text_of) (take-suc parts i d h) ∙ flat_map-append text_of (take i parts) (get_or parts i d ∷ []) ∙ ap (λ text. flat_map text_of (take i parts) ++ text) (append-nil (text_of (get_or parts i d))))
      (all_then_all old mid new (flat_map text_of (take i parts)) (text_of (get_or parts i d)) a b)

pub flat_map-map : {X Y : Type 0} (f : Y → List ℕ) (g : X → Y) (xs : List X) → flat_map f (map g xs) ≡ flat_map (λ x. f (g x)) xs
flat_map-map f g [] = refl
flat_map-map f g (x ∷ xs) = ap (λ rest. f (g x) ++ rest) (flat_map-map f g xs)

-- a flush behind a whole text
pub flushed : (old mid new : Passage) (text : List ℕ) (result : Result (Unit {0}) Failure) → PassesAll old mid text → Flushes mid new result → Puts old new text result
flushed old mid new text (Ok done) a f = record { bytes = ap (λ p. p.bytes) f ∙ a.bytes; failures = ap (λ p. p.failures) f ∙ a.failures }
flushed old mid new text (Err failure) a f = record {
  front = text;
  rest = [];
  whole = sym (append-nil text);
  bytes = f.0 ∙ a.bytes;
  failures = omega (arith, a.failures, f.1);
}
