-- To compute with the definitions: `unfolding everything` opens all of them.
use Rattle.model.specs.Numbers.{rnd, total, depth_limits, bottom_limits, velocity_limits, gravity_limits, coriolis_limits, ratio_limits, inflow_limits, vorticity_limits, barrier_limits, narrow_depth_limits, narrow_bottom_limits, narrow_velocity_limits, narrow_vorticity_limits, within}
use Rattle.model.specs.Grid.{by_cell, sum_to, sum_grid, first_from}
use Rattle.model.specs.State.{boundary_of, closed_west, closed_south}
use Rattle.model.specs.Refusals.{grid_known, constants_within}
use Rattle.model.specs.Weights.{weights, weight_at, weighted}
use Rattle.model.specs.Scheme.{divergence, momentum_u, momentum_v, corner_weight, Z, H, vorticity_at, vorticity, flux_u, flux_v, D, B, Tu, Tv, tendency_u, tendency_v, h_tendencies, u_tendencies, v_tendencies}
use Rattle.model.specs.Doubles as Double
use Rattle.model.specs.Totals.{total_depth, energy_at, energy4}
use Rattle.model.specs.Rates.{energy_rate, vorticity_tendency, D4, enstrophy_rate}
use Rattle.model.specs.Step.{X, Y, new_depth, new_u, new_v, pass, leaves, second, two_pass, step_test, step_answer, step_state, run_from, run_test, run_of, work_left}
use Rattle.model.specs.Record.{parts_of, encode, tag_test, missing_test, walk, walked, state_in, timestamp_in, record_test, decode, rising, restored, kept, newer, same_state, compared, compare_answer}
use Rattle.model.specs.Program.{program_read, program_output}
use Rattle.model.specs.Promises.{vorticity_test, tendencies_test, probe_test, probe_of, total_test, write_test, read_of}
use Rattle.model.specs.Histories.{inflow_due}
use Rattle.std.specs.Int.Count.{count_trailing_zeros}
use Rattle.std.specs.Float.Ieee.{add, sub, mul, neg, sum, round, units, odd, size, span, climb, of_int, eq, to_bits}

unfoldable pub everything : Unit {0}
unfolding rnd total depth_limits bottom_limits velocity_limits gravity_limits coriolis_limits ratio_limits inflow_limits vorticity_limits barrier_limits narrow_depth_limits narrow_bottom_limits narrow_velocity_limits narrow_vorticity_limits within by_cell sum_to sum_grid first_from boundary_of closed_west closed_south grid_known constants_within weights weight_at weighted divergence momentum_u momentum_v corner_weight Z H vorticity_at vorticity flux_u flux_v D B Tu Tv tendency_u tendency_v h_tendencies u_tendencies v_tendencies Double.flux_u Double.flux_v Double.D Double.B Double.tendency_h Double.h_doubles Double.weight Double.Tu Double.Tv Double.tendency_u Double.tendency_v Double.u_doubles Double.v_doubles Double.narrow total_depth energy_at energy4 energy_rate vorticity_tendency D4 enstrophy_rate X Y new_depth new_u new_v pass leaves second two_pass step_test step_answer step_state run_from run_test run_of work_left parts_of encode tag_test missing_test walk walked state_in timestamp_in record_test decode rising restored kept newer same_state compared compare_answer program_read program_output vorticity_test tendencies_test probe_test probe_of total_test write_test read_of inflow_due count_trailing_zeros add sub mul neg sum round units odd size span climb of_int eq to_bits
everything = tt
