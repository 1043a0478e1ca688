-- What reading says of bytes, for `framed`: by the bytes that the code looks at, test by test.
use Rattle.std.proofs.Common.{◌≡◌, ℕ, ◌+◌, ◌-◌, ◌*◌, ◌<◌, ◌≤◌, List, [], ◌∷◌, length, get_or, take, drop, ◌∙◌, refl, sym, arith, eq-eqb, ne_eqb}
use Rattle.theory_refusals.specs.declared.Refusal.{Refusal}
use Rattle.theory_refusals.specs.Numbers.{number_of}
use Rattle.theory_refusals.specs.Refusals.{first_of, first_some, first_more}
use Rattle.spelling.specs.Bytes.{numeral, numbers}
use Rattle.frame.specs.Frame.{length_in, message_in, carried, length_of, faults_in, fault_of, fault_in, wrong_length, read_code}
use Rattle.frame.specs.Laws.{Whole, faultless, called, some-number, fault-numbers, version-in, kind-in, desks-in, desk-in, cell_in}
use Rattle.frame.specs.Laws.{too_short, cut_off, no-head, other-version, whole_code}

length_told : (s : List ℕ) (size : ℕ) → size ≡ numeral (take 2 (drop 0 s)) → length_in s ≡ size
unfolding numbers
length_told s size e = sym e

abbrev size_told : List ℕ → ℕ
size_told s = numeral (take 2 (drop 0 s))

abbrev fault_told : List ℕ → ℕ
fault_told s = fault_of (get_or s 3 0) (get_or s 4 0) (get_or s 5 0) (get_or s 6 0)

module _ (s : List ℕ) where
  pub told : length_in s ≡ size_told s
  told = length_told s _ refl

  pub no_length : length s < 2 → read_code s ≡ 30
  no_length h = too_short s h

  module _ (begun : 2 ≤ length s) where
    pub cut : length s - 2 < size_told s → read_code s ≡ 30
    cut h = cut_off s begun (omega (arith, told))

    module _ (there : size_told s ≤ length s - 2) where
      pub headless : size_told s < 5 → read_code s ≡ 36
      headless h = no-head s begun (omega (arith, told)) (omega (arith, told))

      module _ (headed : 5 ≤ size_told s) where
        long : 7 ≤ length s
        long = omega arith

        pub other_version : (get_or s 2 0 ≡ 1 → ⊥) → read_code s ≡ 31
        other_version other =
            other-version s begun (omega (arith, told)) (omega (arith, told)) (λ e. other (sym (version-in s long) ∙ e))

        module _ (ours : get_or s 2 0 ≡ 1) where
          whole : Whole s
          whole = record { begun = begun; there = omega (arith, told); headed = omega (arith, told); ours = version-in s long ∙ ours }

          fault-in : fault_told s ≡ fault_in (message_in s)
          fault-in = rw (kind-in s long, desks-in s long, desk-in s long, cell_in s long) refl

          pub faulty_head : (r : Refusal) → number_of r ≡ fault_told s → number_of r ≡ read_code s
          faulty_head r e =
              let same = e ∙ fault-in in
              same ∙ sym (whole_code s whole ∙ first_some (faults_in (message_in s)) _ (λ z. some-number r (same ∙ z)))

          module _ (sound : 0 ≡ fault_told s) (c : ℕ) (e : c ≡ carried (get_or s 3 0) (get_or s 4 0)) where
            sound-in : fault_in (message_in s) ≡ 0
            sound-in = sym (sound ∙ fault-in)

            -- what is left to refuse: a length that is not what kind and desk count call for
            left : read_code s ≡ first_of ((36, wrong_length s) ∷ [])
            left = whole_code s whole ∙ first_more (faults_in (message_in s)) _ (fault-numbers (message_in s)) sound-in

            called-for : length_of (message_in s).kind (message_in s).desks ≡ 5 + 4 * c
            called-for = (called (faultless _ _ _ _ sound-in) (rw (kind-in s long, desks-in s long) e)).0

            pub wrong_size : (size_told s ≡ 5 + 4 * c → ⊥) → read_code s ≡ 36
            unfolding first_of
            wrong_size ne = left ∙ rw (ne_eqb _ _ (λ z. ne (sym told ∙ z ∙ called-for)))

            pub right_size : size_told s ≡ 5 + 4 * c → read_code s ≡ 0
            unfolding first_of
            right_size z = left ∙ rw (eq-eqb _ _ (told ∙ z ∙ sym called-for))
