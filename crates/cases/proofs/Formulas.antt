-- The worked cases of formulas hold, by computation. Assumes nothing.
use mathlib.Core.Path.{refl}
use Rattle.cases.specs.Formulas.{repeated, ones_tree, ones_tran, writes, FormulaCases}
use Rattle.delivery.specs.Delivered.{delivered}
use Rattle.formula.specs.FormulaTo.{formula_of, formula_to}
use Rattle.grammar.specs.Grammar.{is_blank, is_digit, minus, value, sum}
use Rattle.grammar.specs.Printed.{decimal, number_text, register_text, texts_t, texts_p, printed}
use Rattle.grammar.specs.Reader.{opens_s, opens_t, sum_in, grown, most_size, signed_number, closed, step_after, step_registered, behind_register, step_number, step_register}
use Rattle.grammar.specs.Reader.{step_letter, step_want, spelling, step, end_after, finish, read_from, read_text}
use Rattle.listing.specs.Listed.{ascii}
use Rattle.script.specs.Bytes.{job_mark, bytes16, bytes32, node_bytes, bytes_t, bytes_p, job_bytes}
use Rattle.script.specs.Count.{nodes_t, nodes_p}
use Rattle.script.specs.Jobs.{operand, fork_of}
use Rattle.script.specs.Reader.{permitted, node_of, node_at, grown as node-grown, read_nodes, job_marked, taken, read_tree, short_from, read_job}
use Rattle.word.specs.Sum.{signed, residue}

pub formula_cases : FormulaCases
unfolding formula_of formula_to delivered read_text read_from step step_want step_letter step_number step_register step_registered behind_register step_after closed finish end_after spelling is_blank is_digit minus value sum
    opens_s opens_t sum_in grown most_size signed_number job_bytes job_mark bytes16 bytes32 bytes_p bytes_t node_bytes nodes_p nodes_t residue signed read_job read_tree short_from read_nodes node_at node_of permitted
    operand node-grown fork_of job_marked taken ascii repeated ones_tree ones_tran writes printed texts_p texts_t number_text register_text decimal
formula_cases =
    record {
      plus-sign = refl;
      opening_bracket = refl;
      closing_bracket = refl;
      becomes_sign = refl;
      fork-word = refl;
      atomic-word = refl;
      number = refl;
      bracketed = refl;
      increments = refl;
      whole_case = refl;
      fork_ends = refl;
      fork_bracket = refl;
      atomic_unbracketed = refl;
      register_outside = refl;
      fork_inside = refl;
      atomic_inside = refl;
      write_takes_all = refl;
      write_bracketed = refl;
      write_behind_plus = refl;
      write_to_bracket = refl;
      write_of_nothing = refl;
      write_outside = refl;
      two_registers = refl;
      no_register = refl;
      left = refl;
      right = refl;
      left_inside = refl;
      no_first = refl;
      no_second = refl;
      greatest = refl;
      too_great = refl;
      too-long = refl;
      least = refl;
      too_little = refl;
      greatest_inside = refl;
      too_great_inside = refl;
      minus_zero = refl;
      zeros = refl;
      minus_zeros = refl;
      two_dashes = refl;
      plus_one = refl;
      minus_sum = refl;
      last_register = refl;
      register_over = refl;
      register_zeros = refl;
      register_long = refl;
      register_minus = refl;
      target_over = refl;
      blanks = refl;
      all_around = refl;
      none_needed = refl;
      forks_joined = refl;
      inside_number = refl;
      inside_minus = refl;
      inside_becomes = refl;
      inside_register = refl;
      inside_word = refl;
      tab = refl;
      byte_11 = refl;
      byte_12 = refl;
      byte_0 = refl;
      high_byte = refl;
      great_letters = refl;
      great_register = refl;
      square_brackets = refl;
      empty = refl;
      only_blanks = refl;
      cut_word = refl;
      cut_fork = refl;
      other_word = refl;
      cut_atomic = refl;
      cut_bracket = refl;
      bracket_over = refl;
      empty_bracket = refl;
      half_becomes = refl;
      only_minus = refl;
      cut_sum = refl;
      brackets_64 = refl;
      brackets_65 = refl;
      not_together = refl;
      forks_64 = refl;
      forks_65 = refl;
      atomic_62 = refl;
      atomic_63 = refl;
      writes_62 = refl;
      writes_63 = refl;
      write_61 = refl;
      write_62 = refl;
      read_62 = refl;
      fork_63 = refl;
      fork_64 = refl;
      fork_shut = refl;
      atomic_shut = refl;
      write_shut = refl;
      sum_64 = refl;
      sum_65 = refl;
      sum_501 = refl;
      forks_16 = refl;
      long_200 = refl;
      long_201 = refl;
      script_first = refl;
      text_32768 = refl;
      text_32769 = refl;
      text_wrong = refl;
      text_wrong_long = refl;
      just_enough = refl;
      short_tray = refl;
      behind = refl;
      before_ten = refl;
      before_all = refl;
      prints_increment = refl;
      prints_brackets = refl;
      prints_write = refl;
    }
