pub mod Mirror  -- what the functions are told, and what they leave before it is the model's
