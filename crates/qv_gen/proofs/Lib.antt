mod CountsExample
