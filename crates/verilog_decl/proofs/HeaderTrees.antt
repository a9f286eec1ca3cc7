-- The rules by which a header stands for tokens.
use Rattle.verilog_decl.specs.Headers.{header, no_parameters, some_parameters, shaped, with_shape, without_shape, header_parameters_behind, no_header_parameter, another_header_parameter, no_ports, some_ports, empty_list, name_list, input_list, output_list, declared, header_ports_behind, no_header_port, another_header_port, input_port, output_port, next_name, next_port}

pub ruleset header_trees = (header, no_parameters, some_parameters, shaped, with_shape, without_shape, header_parameters_behind, no_header_parameter, another_header_parameter, no_ports, some_ports, empty_list, name_list, input_list, output_list, declared, header_ports_behind, no_header_port, another_header_port, input_port, output_port, next_name, next_port)
