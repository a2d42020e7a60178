-- Lemmas on the calls of a file.
use Rattle.std.proofs.Common.{◌≡◌, inl, inr, ⊎_elim, ℕ, ◌+◌, ◌-◌, ◌≤◌, min, List, ◌++◌, length, take, drop, Option, Some, None, IfSome, sym, ap, ◌∙◌, subst, arith, length-drop}
use Rattle.std.proofs.lemmas.List.{length-take, take_at, drop-drop}
use Rattle.std.proofs.lemmas.Slice.{drop-append-drop}
use Rattle.std.proofs.Math.Seq.{take-add}
use Rattle.pol_disk.specs.FileCalls.{OnlyLooks, GivesSome}

-- two looks, one after the other
pub looks_twice : {F : Type 0} (seen : F → Option (List ℕ)) (size : F → Option ℕ) (may_leave : F → List ℕ → Type 0) (clock : F → ℕ) (left_since : F → ℕ → List ℕ → Type 0) (a b c : F)
    → ((t : ℕ) (image : List ℕ) → t ≤ clock a → may_leave a image → left_since a t image)
    → OnlyLooks seen size may_leave clock left_since a b → OnlyLooks seen size may_leave clock left_since b c → OnlyLooks seen size may_leave clock left_since a c
looks_twice seen size may_leave clock left_since a b c counts first second = record {
  seen_same = second.seen_same ∙ first.seen_same;
  size_same = second.size_same ∙ first.size_same;
  fewer = λ image left. first.fewer image (second.fewer image left);
  time = record {
    later = omega (arith, first.time.later, second.time.later);
    nothing_else = λ t image within left. ⊎_elim
        (λ was. ⊎_elim (λ before. inl before) (λ between. inl (counts t image within (first.fewer image between))) (first.time.nothing_else t image within was))
        (λ now. inr now)
        (second.time.nothing_else t image (omega (arith, within, first.time.later)) left);
    keeps = λ t image within left. second.time.keeps t image (omega (arith, within, first.time.later)) (first.time.keeps t image within left);
  };
}

-- so many bytes from a place on stand at the front of a buffer, over what it held first
pub record HasRead (seen : Option (List ℕ)) (size : Option ℕ) (at count : ℕ) (first now : List ℕ) : Type 0 where
  pub within : count ≤ length first
  pub no_more : IfSome size (λ size. count ≤ size - at)
  pub bytes : IfSome seen (λ bytes. now ≡ take count (drop at bytes) ++ drop count first)

-- one read more, behind what was read
more_bytes : (bytes : List ℕ) (at count more : ℕ) (first old new : List ℕ) → count ≤ length bytes - at
    → old ≡ take count (drop at bytes) ++ drop count first
    → new ≡ take count old ++ take more (drop (at + count) bytes) ++ drop (count + more) old
    → new ≡ take (count + more) (drop at bytes) ++ drop (count + more) first
more_bytes bytes at count more first old new enough was is =
    is ∙ (λ i. front i ++ take more (middle i) ++ back i) ∙ ap (λ (l : List ℕ). l ++ drop (count + more) first) (sym (take-add count more (drop at bytes)))
  where
    whole : length (take count (drop at bytes)) ≡ count
    whole = omega (arith, enough, length-take count (drop at bytes), length-drop at bytes)

    front : take count old ≡ take count (drop at bytes)
    front = ap (λ (l : List ℕ). take count l) was ∙ take_at (take count (drop at bytes)) (drop count first) count whole

    middle : drop (at + count) bytes ≡ drop count (drop at bytes)
    middle = sym (drop-drop count at bytes)

    back : drop (count + more) old ≡ drop (count + more) first
    back = ap (λ (l : List ℕ). drop (count + more) l) was ∙ drop-append-drop count first (take count (drop at bytes)) (count + more) (omega arith) whole

some_is : (a b : ℕ) → Some a ≡ Some b → a ≡ b
some_is a b is = cc

more_of : (seen : Option (List ℕ)) (size : Option ℕ) (at count more room : ℕ) (first old new : List ℕ)
    → IfSome seen (λ bytes. size ≡ Some (length bytes))
    → HasRead seen size at count first old → count + more ≤ length first
    → IfSome size (λ size. GivesSome more (min room (size - (at + count))))
    → IfSome seen (λ bytes. new ≡ take count old ++ take more (drop (at + count) bytes) ++ drop (count + more) old)
    → HasRead seen size at (count + more) first new
more_of None None at count more room first old new tells has within number bytes = record { within = within; no_more = tt; bytes = tt }
more_of None (Some size) at count more room first old new tells has within number bytes = record {
  within = within;
  no_more = omega (arith, has.no_more, number.no_more);
  bytes = tt;
}
more_of (Some held) None at count more room first old new tells has within number bytes = absurd (none_is_some tells)
  where
    none_is_some : None ≡ Some (length held) → ⊥
    none_is_some is = cc
more_of (Some held) (Some size) at count more room first old new tells has within number bytes = record {
  within = within;
  no_more = omega (arith, has.no_more, number.no_more);
  bytes = more_bytes held at count more first old new (omega (arith, has.no_more, some_is size (length held) tells)) has.bytes bytes;
}

pub has_read_more : (seen before : Option (List ℕ)) (size size_before : Option ℕ) (at count more room : ℕ) (first old new : List ℕ)
    → seen ≡ before → size ≡ size_before
    → IfSome before (λ bytes. size_before ≡ Some (length bytes))
    → HasRead before size_before at count first old → count + more ≤ length first
    → IfSome size (λ size. GivesSome more (min room (size - (at + count))))
    → IfSome seen (λ bytes. new ≡ take count old ++ take more (drop (at + count) bytes) ++ drop (count + more) old)
    → HasRead before size_before at (count + more) first new
has_read_more seen before size size_before at count more room first old new seen_same size_same tells has within number bytes =
    more_of before size_before at count more room first old new tells has within
    (subst (λ (s : Option ℕ). IfSome s (λ size. GivesSome more (min room (size - (at + count))))) size_same number)
    (subst (λ (s : Option (List ℕ)). IfSome s (λ bytes. new ≡ take count old ++ take more (drop (at + count) bytes) ++ drop (count + more) old)) seen_same bytes)
